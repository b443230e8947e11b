use Rattle.grok.proofs.KeyTables.NamesMeanKeys.{stripped, read_back}
use Rattle.grok.specs.GeneratedNames.{name_start}
use Rattle.grok.proofs.generated_name.number_of.Goals as goal

pub returns : goal.returns
returns c =
    let digits = c.in_ok-strip_prefix.field-0.now in
    read_back c.args.name.now digits c.number_of_numeral.result (stripped name_start c.args.name.now digits c.in_ok-strip_prefix.ensures.cases) c.number_of_numeral.ensures
