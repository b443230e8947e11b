pub mod Runs
pub mod Colours
pub mod Coloured
pub mod Html
pub mod Letters
-- THE WORDS FOR CALLERS: each definition that a contract of a public call uses.
pub use Rattle.marked_lines.specs.Runs.{key_at, keyed_bytes, run_bytes, runs_text, with_key}
pub use Rattle.marked_lines.specs.Colours.{colour_digit, colour_code}
pub use Rattle.marked_lines.specs.Coloured.{coloured_run, without_codes}
pub use Rattle.marked_lines.specs.Html.{Place, InText, InTag, InReference, escaped, has_markup, html_text, title_at, span_begin, run_html}
pub use Rattle.marked_lines.specs.Letters.{letter_of, run_letters}
