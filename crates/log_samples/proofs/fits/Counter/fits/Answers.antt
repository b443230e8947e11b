use Rattle.std.proofs.Common.{rules, ◌≡◌, false, sym}
use Rattle.log_samples.specs.Fits.{fits}
use Rattle.log_samples.proofs.KeysLeft.{no_key_in}
use Rattle.log_samples.proofs.fits.Counter.fits.Goals as goal

pub returns-in-None-clause-missing : goal.returns-in-None-clause-missing
returns-in-None-clause-missing c =
    let unfit : fits c.args.self.now.matcher c.args.line.now ≡ false = search rules in
    sym (no_key_in c.args.self.now.matcher c.args.line.now unfit c.args.missing.now.items)

pub returns-else-is_fit-clause-missing : goal.returns-else-is_fit-clause-missing
returns-else-is_fit-clause-missing c =
    let unfit : fits c.args.self.now.matcher c.args.line.now ≡ false = search rules in
    sym (no_key_in c.args.self.now.matcher c.args.line.now unfit c.args.missing.now.items)
