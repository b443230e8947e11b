use Rattle.std.proofs.Common.{◌≡◌, ◌≢◌, ℕ, List, ◌∷◌, Bool, false, refl, sym, ap, ◌∙◌, ⊎_elim, arith}
use Rattle.std.specs.Prelude.{◌&&◌, nat_eq, codes, None, Some, drop}
use Rattle.std.specs.List.{starts_with, ends_with}
use Rattle.std.specs.Str.{trim_start}
use Rattle.std.proofs.lemmas.Bool.{cases_Bool}
use Rattle.std.proofs.lemmas.Bool.Decides.{Decides-eqb}
use Rattle.std.proofs.lemmas.Slice.Eq.{starts_is}
use Rattle.std.proofs.lemmas.Str.Pattern.{strip_prefix_char, starts_text, ends_text}
use Rattle.log_samples.specs.Logs.{is_object}
use Rattle.log_samples.proofs.log_kinds.is_json.Goals as goal

-- a text without a `{` at its start is no object
not_begun : (text : List ℕ) → ((rest : List ℕ) → text ≢ 123 ∷ rest) → is_object text ≡ false
not_begun text none = ⊎_elim
    (λ t. absurd (none _ ((starts_is Decides-eqb text (codes "{") _ refl).0 t)))
    (λ f. ap (λ b. b && (starts_with nat_eq (trim_start (drop 1 text)) (codes "\"") && ends_with nat_eq text (codes "}"))) f)
    (cases_Bool (starts_with nat_eq text (codes "{")))

-- a text with a `{` at its start is an object if what comes after it begins a key, and `}` ends it
begun : (text inside : List ℕ) (is_open is_closed : Bool) → text ≡ 123 ∷ inside
    → is_open ≡ starts_with nat_eq (trim_start inside) (codes "\"") → is_closed ≡ ends_with nat_eq text (codes "}")
    → is_object text ≡ (is_open && is_closed)
begun text inside is_open is_closed begins p q = rw (p, q, begins) refl

pub returns-in-None : goal.returns-in-None
returns-in-None c =
    let none = strip_prefix_char 123 _ None c.in-None.ensures.cases (omega arith) in
    sym (ap is_object (sym c.trim-text.ensures.trim) ∙ not_begun _ none)

pub returns-then-is_open : goal.returns-then-is_open
returns-then-is_open c =
    let text = c.trim-text.result.now in
    let begins = strip_prefix_char 123 text (Some c.in-Some.inside) c.in-Some.ensures.cases (omega arith) in
    let opened = starts_text c.starts_with-is_open.result (codes "\"") c.trim_start.result.now c.starts_with-is_open.ensures.cases
    ∙ ap (λ t. starts_with nat_eq t (codes "\"")) c.trim_start.ensures.trim in
    let closed = ends_text c.ends_with-is_closed.result (codes "}") text c.ends_with-is_closed.ensures.cases in
    let whole = ap is_object (sym c.trim-text.ensures.trim) ∙ begun text c.in-Some.inside.now _ _ begins opened closed in
    sym (whole ∙ ap (λ is_open. is_open && c.ends_with-is_closed.result) c.if-is_open.true)

pub returns-else-is_open : goal.returns-else-is_open
returns-else-is_open c =
    let text = c.trim-text.result.now in
    let begins = strip_prefix_char 123 text (Some c.in-Some.inside) c.in-Some.ensures.cases (omega arith) in
    let opened = starts_text c.starts_with-is_open.result (codes "\"") c.trim_start.result.now c.starts_with-is_open.ensures.cases
    ∙ ap (λ t. starts_with nat_eq t (codes "\"")) c.trim_start.ensures.trim in
    let closed = ends_text c.ends_with-is_closed.result (codes "}") text c.ends_with-is_closed.ensures.cases in
    let whole = ap is_object (sym c.trim-text.ensures.trim) ∙ begun text c.in-Some.inside.now _ _ begins opened closed in
    c.if-is_open.false ∙ sym (whole ∙ ap (λ is_open. is_open && c.ends_with-is_closed.result) c.if-is_open.false)
