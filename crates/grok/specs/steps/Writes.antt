-- What is written for a list of events, and when there is room for it.
use Rattle.std.specs.Prelude.{◌≡◌, ◌+◌, ◌≤◌, [], List, length}
use Rattle.std.specs.String.{string_bytes, string_len, string_capacity}
use Rattle.grok.specs.Tree.{Event}
use Rattle.grok.specs.Expanded.{text_after, expanded}
use Rattle.grok.specs.steps.CapturedSoFar.{after}
use Rattle.grok.specs.steps.AssignedKeys.{HasAssigned, CanAssign}
use Rattle.grok.specs.declared.write.Writer.{Writer}

-- The text of these events, which remain, fits into the capacity that is left.
pub record CanWrite (writer : Writer) (events : List Event) : Type 0 where
  pub assigned : CanAssign writer.keys
  pub room : string_len writer.text + length (text_after writer.settings.with_alias_only (length writer.keys.keys.items) events)
      ≤ string_capacity writer.text

-- `now` has the text of these events, and the keys of their capturing placeholders.
pub record HasWritten (start : Writer) (events : List Event) (now : Writer) : Type 0 where
  pub settings : now.settings ≡ start.settings
  pub text : string_bytes now.text ≡ expanded start.settings.with_alias_only events
  pub keys : HasAssigned now.keys (after start.settings.with_alias_only [] events)
