-- Which answers were written. `old` and `new` are the bytes that the output had before and has after, or `None`
-- for an output whose bytes the kit doesn't know.
use Rattle.std.specs.Prelude.{◌≡◌, ℕ, List, [], ◌∷◌, ◌++◌, Option}
use Rattle.std.specs.Io.KnownBytes.{Appends}

-- `bytes` are an answer to each element of the list, one after another, and nothing else. `IsAnswer` says what an
-- answer is.
abbrev pub AreAnswers : {A : Type 0} → (A → List ℕ → Type 0) → List A → List ℕ → Type 0
AreAnswers IsAnswer [] bytes = bytes ≡ []
AreAnswers IsAnswer (x ∷ xs) bytes =
    (answer rest : List ℕ) × (bytes ≡ answer ++ rest) × IsAnswer x answer × AreAnswers IsAnswer xs rest

-- the output got an answer to each element of `items`, one after another, and nothing else
abbrev pub HasAnswered : {A : Type 0} → (A → List ℕ → Type 0) → List A
    → Option (List ℕ) → Option (List ℕ) → Type 0
HasAnswered IsAnswer items old new =
    (bytes : List ℕ) × AreAnswers IsAnswer items bytes × Appends old new bytes

-- The output got the answers to the first elements of `items` (none, some or all), each as a whole, and nothing
-- else.
abbrev pub HasAnsweredFirst : {A : Type 0} → (A → List ℕ → Type 0) → List A
    → Option (List ℕ) → Option (List ℕ) → Type 0
HasAnsweredFirst {A} IsAnswer items old new =
    (sent unsent : List A) × (items ≡ sent ++ unsent) × HasAnswered IsAnswer sent old new
