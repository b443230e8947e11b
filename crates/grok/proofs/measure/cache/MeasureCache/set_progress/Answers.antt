use Rattle.std.proofs.lemmas.Map.Text.{btree_map_updates_str}
use Rattle.std.proofs.Common.{Some}
use Rattle.grok.proofs.Sizes.MeasureLoopIsReading.{progress_shows}
use Rattle.grok.specs.steps.MeasureCache.{HasProgress}
use Rattle.grok.proofs.measure.cache.MeasureCache.set_progress.Goals as goal

pub returns : goal.returns
returns c =
    let updated : HasProgress c.args.name.now c.args.progress c.args.self.now (record c.args.self.now { by_name = c.insert.new.self }) =
    btree_map_updates_str c.args.name.now c.args.self.now.by_name c.insert.new.self (Some c.args.progress) c.in_ok-insert.ensures.updates in
    record { shows = progress_shows c.args.self.now c.insert.new.self c.args.name.now c.args.progress updated; by_name = updated }
