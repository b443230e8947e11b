use Rattle.grok.proofs.engine.regex_engine.RegexEngineEngine.captures.Goals as goal

pub write_captures-requires : goal.write_captures-requires
write_captures-requires c = rw c.deref.ensures c.args.self.now.by_default
