-- The parts of a text that is cut are the text.
use Rattle.std.proofs.Common.{◌≡◌, ℕ, List, ◌++◌, take, drop, sym}
use Rattle.std.proofs.lemmas.List.{take-append-drop}

pub parts : (text front rest : List ℕ) (n : ℕ) → front ≡ take n text → rest ≡ drop n text → text ≡ front ++ rest
parts text front rest n e f = rw (e, f) (sym (take-append-drop n text))
