-- A line with which a task has enough writes nothing, as one that failed.
use Rattle.std.proofs.Common.{◌≡◌, Result, Ok, Err, IfOk, OnErr, refl}
use Rattle.groklog_answers.specs.declared.searched_lines.Flow.{Flow}
use Rattle.groklog_answers.specs.declared.searched_lines.Flow.TheVariants.{More, Enough}

pub kept_unless_more : {A E : Type 0} (X : Type 0) (taken : Result Flow E) (ended : Result A E) → IfOk taken (λ flow. flow ≡ Enough → X) → OnErr taken X
    → OnErr ended (taken ≡ Ok More → ⊥) → OnErr ended X
kept_unless_more X taken (Ok done) enough memory stopped = tt
kept_unless_more X (Ok More) (Err error) enough memory stopped = absurd (stopped refl)
kept_unless_more X (Ok Enough) (Err error) enough memory stopped = enough refl
kept_unless_more X (Err why) (Err error) enough memory stopped = memory
