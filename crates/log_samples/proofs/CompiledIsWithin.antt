-- A pattern that was compiled, and isn't too large, is within the limit.
use Rattle.std.proofs.Common.{◌≡◌, ℕ, ◌^◌, ◌<◌, ◌≤◌, inl, inr, Bool, true, false, cond, List, length, Option, Some, None, arith}
use Rattle.std.specs.Prelude.{nat_lt}
use Rattle.grok.specs.Maps.{Texts}
use Rattle.grok.specs.Tree.{Fault, first_structural}
use Rattle.grok.specs.Expanded.{expanded, groups, nesting}
use Rattle.grok.specs.Measured.{Sized, TooLong, fault_or, size_within, tree_of}
use Rattle.grok.specs.Answers.{PatternValue}
use Rattle.grok.specs.declared.engine.regex_engine.RegexEngine.{RegexEngine}
use Rattle.grok.proofs.Trees.StepsCompile.{no_structural}
use Rattle.groklog_definitions.specs.Compiled.{IsCompiledFrom, IsPast, IsTooLarge}
use Rattle.groklog_definitions.specs.declared.library.Limit.{Limit}
use Rattle.log_samples.specs.Sizes.{IsWithin}

not_above : (a b : ℕ) → ¬ (a < b) → b ≤ a
not_above a b not = grind arith

decided : (limit : Limit) (n g h : ℕ) (b : Bool) → (IsPast limit (cond b (Sized n g h) TooLong) → ⊥) → (n ≤ limit.bytes) × (g ≤ limit.groups)
decided limit n g h true small = (not_above limit.bytes n (λ lt. small (inl lt)), not_above limit.groups g (λ lt. small (inr lt)))
decided limit n g h false small = absurd (small tt)

clean : (limit : Limit) (o : Option Fault) (n g h : ℕ) → o ≡ None → (IsPast limit (fault_or o (size_within n g h)) → ⊥)
    → (n ≤ limit.bytes) × (g ≤ limit.groups)
clean limit None n g h e small = decided limit n g h (nat_lt n (2 ^ 64)) small
clean limit (Some fault) n g h e small = cc

pub within : (limit : Limit) (definitions : Texts) (text : List ℕ) (pattern : PatternValue RegexEngine)
    → IsCompiledFrom definitions true text pattern → (IsTooLarge definitions true limit text → ⊥)
    → IsWithin limit.bytes limit.groups definitions text
within limit definitions text pattern is small = let tree = tree_of definitions text in
    clean limit (first_structural tree) (length (expanded true tree)) (groups true tree) (nesting tree)
    (no_structural true tree is.can.clean) small
