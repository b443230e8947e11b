-- The regex in an engine over `regex`.
use Rattle.std.specs.Prelude.{box_value}
use Rattle.regex.specs.declared.string.regex.Regex.{Regex}
use Rattle.grok.specs.declared.engine.regex_engine.RegexEngine.{RegexEngine}

-- the regex that the engine was built with
abbrev pub engine_regex : RegexEngine → Regex
engine_regex engine = box_value engine.regex
