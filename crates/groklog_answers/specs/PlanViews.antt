-- What contracts see of plans.
use Rattle.std.specs.Prelude.{ℕ, List, map}
use Rattle.std.specs.Borrow.{Bor}
use Rattle.groklog_answers.specs.Plans.{SharedKeyText, EntryText, FieldText}
use Rattle.groklog_answers.specs.declared.plan.SharedKey.{SharedKey}
use Rattle.groklog_answers.specs.declared.plan.Entry.{Entry}
use Rattle.groklog_answers.specs.declared.plan.Field.{Field}
use Rattle.groklog_answers.specs.declared.plan.Plan.{Plan}

-- The bytes of these names.
abbrev pub names_of : List (Bor (List ℕ)) → List (List ℕ)
names_of names = map (λ name. name.now) names

-- What contracts see of a key with the key that it is written under.
abbrev pub shared_text : SharedKey → SharedKeyText
shared_text shared = record { key = shared.key.now; base = shared.base.now }

-- What contracts see of an entry.
abbrev pub entry_text : Entry → EntryText
entry_text entry = record {
  names = names_of entry.names.items;
  key = entry.key.now;
  base = entry.base.now;
  index = entry.index;
}

-- What contracts see of a field.
abbrev pub field_text : Field → FieldText
field_text field = record {
  parents = names_of field.parents.items;
  name = field.name.now;
  keys = names_of field.keys.items;
}

-- What contracts see of a plan.
abbrev pub plan_text : Plan → List FieldText
plan_text plan = map field_text plan.fields.items
