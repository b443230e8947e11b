use Rattle.std.proofs.Common.{◌≡◌, ℕ, List, [], ◌∷◌, ◌++◌, length, sym, ◌∙◌, ap, subst, arith}
use Rattle.std.specs.String.{string_bytes}
use Rattle.grok.specs.declared.key_table.KeyRange.{KeyRange}
use Rattle.grok.specs.steps.KeyRanges.{IsExtended}
use Rattle.grok.proofs.KeyTables.OneMoreKey.{extended}
use Rattle.grok.proofs.key_table.extend.Goals as goal

pub returns : goal.returns
returns c =
    let text : List ℕ = string_bytes c.args.text.now in
    let key = c.args.key.now in
    let ranges : List KeyRange = c.args.ranges.now.items in
    let group = c.args.group in
    let bytes : string_bytes c.push_str.new.self ≡ text ++ key = c.in_ok-push_str.ensures.bytes in
    let start : c.len-start.result ≡ length text = omega (arith, c.len-start.ensures, c.args.text.now.bytes.ok.0) in
    let end : c.len.result ≡ length (text ++ key) = omega (arith, c.len.ensures, c.push_str.new.self.bytes.ok.0, ap length bytes) in
    let range : (m n : ℕ) → m ≡ length text → n ≡ length (text ++ key) → ranges ++ record { start = m; end = n; group = group } ∷ [] ≡ ranges ++ record { start = length text; end = length (text ++ key); group = group } ∷ [] =
    λ m n p q. ap (λ a. ranges ++ record { start = a; end = n; group = group } ∷ []) p ∙ ap (λ b. ranges ++ record { start = length text; end = b; group = group } ∷ []) q in
    let items : c.push.new.self.items ≡ ranges ++ record { start = length text; end = length (text ++ key); group = group } ∷ [] = c.in_ok-push.ensures.items ∙ range c.len-start.result c.len.result start end in
    subst (λ t. IsExtended text ranges key group t c.push.new.self.items) (sym bytes)
    (subst (IsExtended text ranges key group (text ++ key)) (sym items) (extended text key c.utf8.key ranges group))
