-- The tokens of an object are those of its members, between its braces.
use Rattle.std.proofs.Common.{◌≡◌, List, [], ◌∷◌, ◌++◌, refl, sym, ap, ◌∙◌, append_assoc, flat_map}
use Rattle.json.specs.Token.{Token}
use Rattle.json.specs.Json.{object}
use Rattle.json.specs.Tree.{json_tokens, members_tokens}
use Rattle.groklog_answers.specs.Objects.{KeyValues, members_of, member_tokens}

members_are : (members : KeyValues) → members_tokens (members_of members) ≡ flat_map member_tokens members ++ Token.end_object ∷ []
members_are [] = refl
members_are (pair ∷ more) =
    ap (λ ts. Token.key pair.0 ∷ (json_tokens pair.1 ++ ts)) (members_are more)
    ∙ sym (append_assoc (member_tokens pair) (flat_map member_tokens more) (Token.end_object ∷ []))

pub object_is : (members : KeyValues)
    → json_tokens (object (members_of members)) ≡ Token.begin_object ∷ (flat_map member_tokens members ++ Token.end_object ∷ [])
object_is members = ap (λ ts. Token.begin_object ∷ ts) (members_are members)

pub tokens_append : (a b : KeyValues) → flat_map member_tokens (a ++ b) ≡ flat_map member_tokens a ++ flat_map member_tokens b
tokens_append [] b = refl
tokens_append (pair ∷ more) b =
    ap (λ ts. member_tokens pair ++ ts) (tokens_append more b)
    ∙ sym (append_assoc (member_tokens pair) (flat_map member_tokens more) (flat_map member_tokens b))

-- The members are written in three parts: what is added before the fields, the fields, and what is added
-- after them.
pub object_in_three_parts : (a b c : KeyValues)
    → json_tokens (object (members_of (a ++ (b ++ c))))
    ≡ Token.begin_object ∷ (((flat_map member_tokens a ++ flat_map member_tokens b) ++ flat_map member_tokens c) ++ Token.end_object ∷ [])
object_in_three_parts a b c =
    object_is (a ++ (b ++ c))
    ∙ ap (λ ts. Token.begin_object ∷ (ts ++ Token.end_object ∷ []))
    (tokens_append a (b ++ c) ∙ ap (λ ts. flat_map member_tokens a ++ ts) (tokens_append b c)
    ∙ sym (append_assoc (flat_map member_tokens a) (flat_map member_tokens b) (flat_map member_tokens c)))

pub four_tokens : (before : List Token) (a b c d : Token)
    → (((before ++ a ∷ []) ++ b ∷ []) ++ c ∷ []) ++ d ∷ [] ≡ before ++ (a ∷ (b ∷ (c ∷ (d ∷ []))))
four_tokens before a b c d = simp append_assoc

-- The members are written in two parts.
pub object_in_two_parts : (a b : KeyValues)
    → json_tokens (object (members_of (a ++ b)))
    ≡ Token.begin_object ∷ ((flat_map member_tokens a ++ flat_map member_tokens b) ++ Token.end_object ∷ [])
object_in_two_parts a b = object_is (a ++ b)
    ∙ ap (λ ts. Token.begin_object ∷ (ts ++ Token.end_object ∷ [])) (tokens_append a b)
