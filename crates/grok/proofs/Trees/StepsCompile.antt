-- What measuring, assigning keys and building return together is the result of compiling.
use Rattle.std.proofs.Common.{◌≡◌, ◌≢◌, ℕ, suc, ◌<◌, ◌^◌, Bool, true, false, cond, List, [], ◌∷◌, length, map, Option, Some, None, Result, Ok, Err, ◌⊎◌, inl, inr, refl, sym, ◌∙◌, ap, subst, arith}
use Rattle.std.specs.Prelude.{nat_lt, ◌==◌, MatchResult, IsErrAnd, IfOk}
use Rattle.std.specs.Option.{option_map}
use Rattle.std.specs.String.{string_bytes}
use Rattle.std.specs.BTreeMap.{get_by_text}
use Rattle.std.proofs.lemmas.Bool.{true≢false, ne_eqb, ltb-true}
use Rattle.grok.specs.Tree.{Label, Fault, Event, Text, Open, Close, FaultEvent, first_structural}
use Rattle.grok.specs.Keys.{is_capturing, key_after, is_among, first_fault_after, first_fault, TreeFault, Structural, Clash, keys, capturing, extract_of}
use Rattle.grok.specs.Expanded.{expanded, groups, nesting}
use Rattle.grok.specs.KeyNumbers.{key_text, key_number, numbers}
use Rattle.grok.specs.Measured.{Faulty, Sized, TooLong, fault_or, size_within, measured_tree}
use Rattle.grok.specs.Answers.{PatternValue}
use Rattle.grok.specs.KeyTable.{IsKeyTable}
use Rattle.grok.specs.declared.engine.Refusal.{Refusal}
use Rattle.grok.specs.declared.engine.Refusal.TheVariants as refusal
use Rattle.grok.specs.declared.expand.key_assigner.KeyAssigner.{KeyAssigner}
use Rattle.grok.specs.steps.AssignedKeys.{HasKeys}
use Rattle.grok.specs.declared.errors.error.Error.{Error}
use Rattle.grok.specs.declared.errors.error.Error.TheVariants as rust
use Rattle.grok.specs.Errors.{ErrorValue, Memory, error_value}
use Rattle.grok.specs.Compiled.{NeverRefuses, IsExpansionError, IsFaultError, IsFirstError, error_of_refusal, IsBuilt, IsRefusal, Refused, Expansion, Compiles, IsCompileError, Empty, First, Unbuilt, NoMemory}
use Rattle.grok.specs.declared.write.ExpandedPattern.{ExpandedPattern}
use Rattle.grok.specs.steps.Expansions.{IsExpansionOf, Expands}

-- ---- what was measured

faulty_never : (b : Bool) (n g h : ℕ) (fault : Fault) → Faulty fault ≡ cond b (Sized n g h) TooLong → ⊥
faulty_never true n g h fault e = cc
faulty_never false n g h fault e = cc

faulty_or : (o : Option Fault) (n g h : ℕ) (fault : Fault) → Faulty fault ≡ fault_or o (size_within n g h) → o ≡ Some fault
faulty_or None n g h fault e = absurd (faulty_never (nat_lt n (2 ^ 64)) n g h fault e)
faulty_or (Some other) n g h fault e = let same : other ≡ fault = cc in ap Some same

pub faulty_is : (alias_only : Bool) (es : List Event) (fault : Fault) → Faulty fault ≡ measured_tree alias_only es → first_structural es ≡ Some fault
faulty_is alias_only es fault e = faulty_or (first_structural es) (length (expanded alias_only es)) (groups alias_only es) (nesting es) fault e

-- ---- faults

-- if the first fault is the structural one, that fault's error is the first error
pub structural_error : (alias_only : Bool) (es : List Event) (fault : Fault) (error : ErrorValue) → first_fault alias_only es ≡ option_map Structural (first_structural es)
    → first_structural es ≡ Some fault → IsFaultError fault error → IsFirstError alias_only es error
structural_error alias_only es fault error same is says = record { tree_fault = Structural fault; first = same ∙ ap (option_map Structural) is; is = says }

-- a tree whose measured size is this has no structural fault
sized_as : (b : Bool) (n g h m k l : ℕ) → Sized m k l ≡ cond b (Sized n g h) TooLong → m ≡ n
sized_as true n g h m k l e = cc
sized_as false n g h m k l e = cc

sized_or : (o : Option Fault) (n g h m k l : ℕ) → Sized m k l ≡ fault_or o (size_within n g h) → (o ≡ None) × (m ≡ n)
sized_or None n g h m k l e = (refl, sized_as (nat_lt n (2 ^ 64)) n g h m k l e)
sized_or (Some fault) n g h m k l e = cc

pub sized_is : (alias_only : Bool) (es : List Event) (m k l : ℕ) → Sized m k l ≡ measured_tree alias_only es → (first_structural es ≡ None) × (m ≡ length (expanded alias_only es))
sized_is alias_only es m k l e = sized_or (first_structural es) (length (expanded alias_only es)) (groups alias_only es) (nesting es) m k l e

fits_as : (n g h m k l : ℕ) (b : Bool) → nat_lt n (2 ^ 64) ≡ b → Sized m k l ≡ cond b (Sized n g h) TooLong → n < 2 ^ 64
fits_as n g h m k l true lt e = ltb-true n (2 ^ 64) lt
fits_as n g h m k l false lt e = cc

fits_or : (o : Option Fault) (n g h m k l : ℕ) → Sized m k l ≡ fault_or o (size_within n g h) → n < 2 ^ 64
fits_or None n g h m k l e = fits_as n g h m k l (nat_lt n (2 ^ 64)) refl e
fits_or (Some fault) n g h m k l e = cc

-- the text of a tree that was measured fits
pub sized_fits : (alias_only : Bool) (es : List Event) (m k l : ℕ) → Sized m k l ≡ measured_tree alias_only es → length (expanded alias_only es) < 2 ^ 64
sized_fits alias_only es m k l e = fits_or (first_structural es) (length (expanded alias_only es)) (groups alias_only es) (nesting es) m k l e

none_by : (capturing taken : Bool) (key : List ℕ) (o p : Option TreeFault) (q : Option Fault) → (o ≡ None → q ≡ None) → (p ≡ None → q ≡ None) → cond capturing (cond taken (Some (Clash key)) o) p ≡ None → q ≡ None
none_by true true key o p q f h e = cc
none_by true false key o p q f h e = f e
none_by false taken key o p q f h e = h e

-- if there is no first fault, there is no structural fault
none_structural : (alias_only : Bool) (before : List Label) (taken : List (List ℕ)) (es : List Event) → first_fault_after alias_only before taken es ≡ None → first_structural es ≡ None
none_structural alias_only before taken [] e = refl
none_structural alias_only before taken (Text text ∷ es) e = none_structural alias_only before taken es e
none_structural alias_only before taken (Close ∷ es) e = none_structural alias_only before taken es e
none_structural alias_only before taken (FaultEvent fault ∷ es) e = cc
none_structural alias_only before taken (Open label meaning ∷ es) e =
    let key = key_after before label in
    none_by (is_capturing alias_only label) (is_among key taken) key (first_fault_after alias_only (label ∷ before) (key ∷ taken) es) (first_fault_after alias_only before taken es) (first_structural es)
    (none_structural alias_only (label ∷ before) (key ∷ taken) es) (none_structural alias_only before taken es) e

pub no_structural : (alias_only : Bool) (es : List Event) → first_fault alias_only es ≡ None → first_structural es ≡ None
no_structural alias_only es none = none_structural alias_only [] [] es none

-- ---- patterns

pub built_as : {E : Type 0} (source_of : E → List ℕ) (group_names : E → List (Option (List ℕ))) (alias_only : Bool) (es : List Event) (given : KeyAssigner) (text : List ℕ) (pattern : PatternValue E)
    → HasKeys alias_only es given → text ≡ expanded alias_only es
    → IsBuilt source_of group_names text (map key_text given.keys.items) (map key_number given.keys.items) (λ key. option_map string_bytes (get_by_text given.extracts key)) pattern
    → IsBuilt source_of group_names (expanded alias_only es) (keys (capturing alias_only es)) (numbers (capturing alias_only es)) (extract_of alias_only es) pattern
built_as source_of group_names alias_only es given text pattern has is built = record {
  text = built.text ∙ is;
  given_keys = built.given_keys ∙ has.keys;
  given_numbers = built.given_numbers ∙ has.numbers;
  keys = subst (λ ks. IsKeyTable ks (group_names pattern.engine) pattern.keys) has.keys built.keys;
  extracts = λ key. built.extracts key ∙ has.extracts key;
}

pub some_bytes : (xs : List ℕ) → (length xs == 0) ≡ false → xs ≢ []
some_bytes [] h e = cc
some_bytes (x ∷ xs) h e = cc

-- ---- results

-- if an engine isn't built, an allocation failed, or the engine may refuse the text
pub unbuilt : (may_refuse : List ℕ → Type 0) (text : List ℕ) (why : Refusal) (error : ErrorValue) → (why ≡ refusal.Refused → may_refuse text) → error ≡ error_of_refusal why text
    → (error ≡ Memory) ⊎ IsRefusal may_refuse text error
unbuilt may_refuse text refusal.Memory error may is = inl is
unbuilt may_refuse text refusal.Refused error may is = inr (subst (λ e. IsRefusal may_refuse text e) (sym is) (Refused (may refl)))

-- an error of expanding is one of compiling, whatever the engine refuses
pub expansion_error : (may_refuse : List ℕ → Type 0) (e : Expansion) (error : Error) → IsExpansionError e error → IsCompileError may_refuse e (error_value error)
expansion_error may_refuse e error h = go (error_value error) h
  where
    go : (value : ErrorValue) → IsCompileError NeverRefuses e value → IsCompileError may_refuse e value
    go _ (Empty none) = Empty none
    go _ (First value some first fits) = First value some first fits
    go _ (Unbuilt value some can (Refused never)) = absurd never
    go _ (NoMemory some) = NoMemory some

module _ (e : Expansion) (some : e.pattern ≢ []) where
  pub expansion_without_memory : (r : Result ExpandedPattern Error) → IsErrAnd r (λ error. error ≡ rust.Memory) → Expands e r
  expansion_without_memory (Ok p) h = elim h [ ]
  expansion_without_memory (Err error) h = subst (λ is. IsExpansionError e is) (sym h) (NoMemory some)

-- expanding a pattern without a fault
pub expansion_if : {E : Type 0} (e : Expansion) (r : Result ExpandedPattern E) → e.pattern ≢ [] → first_fault e.alias_only e.tree ≡ None → IfOk r (λ found. string_bytes found.text ≡ expanded e.alias_only e.tree)
    → IfOk r (λ found. HasKeys e.alias_only e.tree found.keys) → IfOk r (IsExpansionOf e)
expansion_if e (Ok found) some clean text keys =
    let bytes = found.text.bytes in
    record { some = some; can = record { clean = clean; fits = omega (arith, ap length text, bytes.ok.0, bytes.ok.1, bytes.small) }; text = text; keys = keys }
expansion_if e (Err error) some clean text keys = tt

module _ {E : Type 0} (source_of : E → List ℕ) (group_names : E → List (Option (List ℕ))) (may_refuse : List ℕ → Type 0) (e : Expansion) where
  pub unexpanded_answer : (r : Result (PatternValue E) Error) (error : Error) → IsErrAnd r (λ same. same ≡ error) → IsExpansionError e error → Compiles source_of group_names may_refuse e r
  unexpanded_answer (Ok p) error h is = elim h [ ]
  unexpanded_answer (Err same) error h is = expansion_error may_refuse e same (subst (IsExpansionError e) (sym h) is)

  pub built_answer : (found : ExpandedPattern) (text : List ℕ) (r : Result (PatternValue E) Error) → IsExpansionOf e found → text ≡ string_bytes found.text
      → MatchResult r (IsBuilt source_of group_names text (map key_text found.keys.keys.items) (map key_number found.keys.keys.items) (λ key. option_map string_bytes (get_by_text found.keys.extracts key))) (λ error. (error_value error ≡ Memory) ⊎ IsRefusal may_refuse text (error_value error))
      → Compiles source_of group_names may_refuse e r
  built_answer found text (Ok p) is same built = record { some = is.some; can = is.can; built = built_as source_of group_names e.alias_only e.tree found.keys text p is.keys (same ∙ is.text) built }
  built_answer found text (Err error) is same (inl memory) = subst (λ value. IsCompileError may_refuse e value) (sym memory) (NoMemory is.some)
  built_answer found text (Err error) is same (inr refused) = Unbuilt (error_value error) is.some is.can (subst (λ t. IsRefusal may_refuse t (error_value error)) (same ∙ is.text) refused)

pub no_bytes : (xs : List ℕ) → (length xs == 0) ≡ true → xs ≡ []
no_bytes [] h = refl
no_bytes (x ∷ xs) h = absurd (true≢false (sym h ∙ ne_eqb (suc (length xs)) 0 (λ e. absurd (omega arith))))
