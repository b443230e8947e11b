-- The default definitions.
use Rattle.std.specs.Prelude.{ℕ, List, [], ◌∷◌, codes}

-- each with its name, in the order in which `patterns` returns them
abbrev pub default_definitions : List (List ℕ × List ℕ)
default_definitions =
    (codes "USERNAME", codes "[a-zA-Z0-9._-]+")
    ∷ (codes "USER", codes "%{USERNAME}")
    ∷ (codes "YEAR", codes "(\\d\\d){1,2}")
    ∷ (codes "MONTH", codes "\\b(?:Jan(?:uary)?|Feb(?:ruary)?|Mar(?:ch)?|Apr(?:il)?|May|Jun(?:e)?|Jul(?:y)?|Aug(?:ust)?|Sep(?:tember)?|Oct(?:ober)?|Nov(?:ember)?|Dec(?:ember)?)\\b")
    ∷ (codes "DAY", codes "(?:Mon(?:day)?|Tue(?:sday)?|Wed(?:nesday)?|Thu(?:rsday)?|Fri(?:day)?|Sat(?:urday)?|Sun(?:day)?)")
    ∷ (codes "SPACE", codes "\\s*")
    ∷ (codes "MAC", codes "(?:%{CISCOMAC}|%{WINDOWSMAC}|%{COMMONMAC})")
    ∷ (codes "CISCOMAC", codes "(?:(?:[A-Fa-f0-9]{4}\\.){2}[A-Fa-f0-9]{4})")
    ∷ (codes "WINDOWSMAC", codes "(?:(?:[A-Fa-f0-9]{2}-){5}[A-Fa-f0-9]{2})")
    ∷ (codes "COMMONMAC", codes "(?:(?:[A-Fa-f0-9]{2}:){5}[A-Fa-f0-9]{2})")
    ∷ []
