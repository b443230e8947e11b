-- What room a text has before and after a push.
use Rattle.std.proofs.Common.{◌≡◌, ℕ, ◌+◌, ◌≤◌, List, ◌++◌, length, ap, arith, length-append}
use Rattle.std.specs.String.{string_bytes, string_len, string_capacity}
use Rattle.std.specs.Global.{Global}
use Rattle.std.specs.declared.string.String.{String}

pub room_first : (text : String Global) (first rest : List ℕ) → string_len text + length (first ++ rest) ≤ string_capacity text → string_len text + length first ≤ string_capacity text
room_first text first rest fits = omega (arith, fits, length-append first rest)

pub room_after : (old new : String Global) (added rest : List ℕ) → string_bytes new ≡ string_bytes old ++ added → string_capacity old ≤ string_capacity new
    → string_len old + length (added ++ rest) ≤ string_capacity old → string_len new + length rest ≤ string_capacity new
room_after old new added rest bytes grows fits = omega (arith, fits, grows, ap length bytes, length-append (string_bytes old) added, length-append added rest, old.bytes.ok.0, new.bytes.ok.0)
