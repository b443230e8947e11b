-- The bytes that a writer took and those still held for it grow together by the bytes that are added, and stay the
-- same if all held bytes are sent.
use Rattle.std.proofs.Common.{◌≡◌, ℕ, List, [], ◌++◌, Option, Some, None, take, drop, refl, sym, ap, ◌∙◌, append_assoc, append-nil}
use Rattle.std.proofs.lemmas.List.{take-append-drop}
use Rattle.std.specs.Io.KnownBytes.{Appends, Keeps, append_known}

-- more is held
pub held_more : (a : Option (List ℕ)) (old new more : List ℕ) → new ≡ old ++ more → Appends (append_known a old) (append_known a new) more
held_more None old new more e = tt
held_more (Some xs) old new more e = ap (λ v. xs ++ v) e ∙ sym (append_assoc xs old more)

-- as much is held
pub held_same : (a : Option (List ℕ)) (old new : List ℕ) → new ≡ old → Keeps (append_known a old) (append_known a new)
held_same None old new e = tt
held_same (Some xs) old new e = ap (λ v. xs ++ v) e

-- all that was held went out
pub held_sent : (a b : Option (List ℕ)) (old new : List ℕ) → Appends a b old → new ≡ [] → Keeps (append_known a old) (append_known b new)
held_sent None b old new h e = tt
held_sent (Some xs) None old new h e = absurd h
held_sent (Some xs) (Some ys) old new h e = ap (λ v. ys ++ v) e ∙ append-nil ys ∙ h

-- ---- the bytes that were written, and the `rest` that wasn't

pub nothing_written : (a : Option (List ℕ)) (bytes : List ℕ) → Appends a (append_known a bytes) bytes
nothing_written None bytes = tt
nothing_written (Some xs) bytes = refl

-- the first bytes of the rest were written
pub written_on : (a b c : Option (List ℕ)) (bytes rest : List ℕ) (n : ℕ) → Appends a (append_known b rest) bytes → Appends b c (take n rest)
    → Appends a (append_known c (drop n rest)) bytes
written_on None b c bytes rest n h k = tt
written_on (Some xs) None c bytes rest n h k = absurd h
written_on (Some xs) (Some ys) None bytes rest n h k = absurd k
written_on (Some xs) (Some ys) (Some zs) bytes rest n h k =
    ap (λ v. v ++ drop n rest) k ∙ append_assoc ys (take n rest) (drop n rest) ∙ ap (λ v. ys ++ v) (take-append-drop n rest) ∙ h

-- nothing more was written
pub written_still : (a b c : Option (List ℕ)) (bytes rest : List ℕ) → Appends a (append_known b rest) bytes → Keeps b c
    → Appends a (append_known c rest) bytes
written_still None b c bytes rest h k = tt
written_still (Some xs) None c bytes rest h k = absurd h
written_still (Some xs) (Some ys) None bytes rest h k = absurd k
written_still (Some xs) (Some ys) (Some zs) bytes rest h k = ap (λ v. v ++ rest) k ∙ h

-- all was written
pub written_all : (a b : Option (List ℕ)) (bytes rest : List ℕ) → Appends a (append_known b rest) bytes → rest ≡ [] → Appends a b bytes
written_all None b bytes rest h e = tt
written_all (Some xs) None bytes rest h e = absurd h
written_all (Some xs) (Some ys) bytes rest h e = sym (append-nil ys) ∙ ap (λ v. ys ++ v) (sym e) ∙ h

pub all_written : (a b c : Option (List ℕ)) (bytes : List ℕ) → Appends a b bytes → Keeps b c → Appends a (append_known c []) bytes
all_written None b c bytes h k = tt
all_written (Some xs) None c bytes h k = absurd h
all_written (Some xs) (Some ys) None bytes h k = absurd k
all_written (Some xs) (Some ys) (Some zs) bytes h k = append-nil zs ∙ k ∙ h

-- what was held was written in part
pub held_begun : (a b : Option (List ℕ)) (held unsent : List ℕ) → Appends a (append_known b unsent) held → Keeps (append_known a held) (append_known b unsent)
held_begun None b held unsent h = tt
held_begun (Some xs) None held unsent h = absurd h
held_begun (Some xs) (Some ys) held unsent h = h
