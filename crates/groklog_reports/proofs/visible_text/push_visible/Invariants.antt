-- What was appended shows the characters that were read so far, and the others are still to come.
use Rattle.std.proofs.Common.{◌≡◌, ◌++◌, string_bytes}
use Rattle.std.specs.List.{flat_map}
use Rattle.std.specs.Str.{encode_utf8_all}
use Rattle.std.specs.Str.Iter.{chars_rest}
use Rattle.groklog_reports.specs.Visible.{shown_char}
use Rattle.groklog_reports.proofs.visible_text.push_visible.Given as goal

abbrev pub invariant-loop-c : goal.invariant-loop-c
invariant-loop-c l = record {
  written : string_bytes l.shown ≡ string_bytes l.initial.shown ++ encode_utf8_all (flat_map shown_char l.yielded);
  left : encode_utf8_all l.yielded ++ chars_rest l.c-iterator ≡ l.text;
}
