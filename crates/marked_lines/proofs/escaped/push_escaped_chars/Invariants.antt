-- The characters so far were appended, escaped, and the others are still to come.
use Rattle.std.proofs.Common.{◌≡◌, ◌++◌, string_bytes}
use Rattle.std.specs.Str.{encode_utf8_all}
use Rattle.std.specs.Str.Iter.{chars_rest}
use Rattle.marked_lines.specs.Html.{escaped}
use Rattle.marked_lines.proofs.escaped.push_escaped_chars.Given as goal

abbrev pub invariant-chars : goal.invariant-chars
invariant-chars l = record {
  written : string_bytes l.html ≡ string_bytes l.initial.html ++ escaped (encode_utf8_all l.yielded);
  left : encode_utf8_all l.yielded ++ chars_rest l.c-iterator ≡ l.text;
}
