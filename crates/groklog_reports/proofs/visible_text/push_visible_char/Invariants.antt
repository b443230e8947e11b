-- What was appended are the characters that the escape gave so far, and the others are still to come.
use Rattle.std.proofs.Common.{◌≡◌, ◌++◌, string_bytes}
use Rattle.std.specs.Str.{encode_utf8_all}
use Rattle.std.specs.Char.Iter.{escape_rest}
use Rattle.groklog_reports.proofs.visible_text.push_visible_char.Given as goal

abbrev pub invariant-loop-escaped : goal.invariant-loop-escaped
invariant-loop-escaped l = record {
  written : string_bytes l.shown ≡ string_bytes l.initial.shown ++ encode_utf8_all l.yielded;
  left : l.yielded ++ escape_rest l.escaped-iterator ≡ escape_rest l.initial.escaped-iterator;
}
