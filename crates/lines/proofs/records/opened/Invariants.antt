use Rattle.text.proofs.Stores.{Left}
use Rattle.lines.proofs.RecordTexts.{values_from}
use Rattle.lines.proofs.records.opened.Given as goal

-- the values that are left
abbrev pub invariant-loop-v : goal.invariant-loop-v
invariant-loop-v l = Left l.initial.out l.initial.place (values_from l.values 0) l.out l.place (values_from l.values l.v-index)
