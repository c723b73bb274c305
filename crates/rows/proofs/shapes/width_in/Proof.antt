-- `rows::shapes::width_in` meets its contract: which shape an arm makes, and so that it is formed and how wide it is. Assumes nothing.
use Rattle.bits.proofs.Words.{◌≡◌, ◌∙◌, true, false, rules}
use Rattle.format.specs.Messages.{clock_shape, code_shape, phase_shape, packet_shape, bias_shape, accuracy_shape}
use Rattle.rows.specs.Table.{shapes, listed, shape_at, shape_in}
use Rattle.format.proofs.Tables.{NoneOf}
use Rattle.rows.proofs.Laid.{iode_some}
use Rattle.rows.proofs.Table.{last_made, orbit_made, gaps_made, made_formed, made_width}
use Rattle.rows.proofs.shapes.width_in.Statement.{statement}
use Rattle.rows.proofs.shapes.width_in.Tie as tie

last-is : (c : tie.After-last) → c.last.result ≡ shape_in 1 c.args.system
last-is c = c.last.ensures ∙ rw c.counts.ensures (last_made true _)

orbit-is : (c : tie.After-orbit) → c.orbit.result ≡ shape_in 2 c.args.system
orbit-is c = c.orbit.ensures ∙ rw (c.gap.ensures, c.iode.ensures) (orbit_made false _)

orbit2-is : (c : tie.After-orbit-in-3) → c.orbit-in-3.result ≡ shape_in 3 c.args.system
orbit2-is c = c.orbit-in-3.ensures ∙ rw (c.counts-in-3.ensures, c.iode-in-3.ensures) (orbit_made true _)

-- past the table
last2-is : (c : tie.After-last-in_default) → c.last-in_default.result ≡ shape_in c.args.i c.args.system
unfolding NoneOf
last2-is c = c.last-in_default.ensures ∙ rw c.gap-in_default.ensures (gaps_made _ _ c.in_default.in_default-own.rest)

pub width_in_spec : {M : Type 1} → statement M
unfolding shapes listed shape_at clock_shape code_shape phase_shape packet_shape bias_shape accuracy_shape
width_in_spec =
    tie.close
    (tie.spec (λ c κs. search rules) (λ c κs. search rules) (λ c κs. made_formed _ 1 (last-is c)) (λ c κs. search rules) (λ c κs. search rules)
    (λ c κs. iode_some _ c.iode.ensures) (λ c κs. made_formed _ 2 (orbit-is c)) (λ c κs. search rules) (λ c κs. search rules)
    (λ c κs. iode_some _ c.iode-in-3.ensures) (λ c κs. made_formed _ 3 (orbit2-is c)) (λ c κs. search rules) (λ c κs. made_formed 0 4 c.clock.ensures)
    (λ c κs. search rules) (λ c κs. made_formed 0 5 c.code.ensures) (λ c κs. search rules) (λ c κs. made_formed 0 6 c.phase.ensures) (λ c κs. search rules)
    (λ c κs. made_formed 0 7 c.packet.ensures) (λ c κs. search rules) (λ c κs. made_formed 0 9 c.phases.ensures)
    (λ c κs. search rules) (λ c κs. made_formed 0 5 c.code-in-10.ensures) (λ c κs. search rules) (λ c κs. made_formed 0 11 c.both.ensures)
    (λ c κs. search rules) (λ c κs. made_formed 0 12 c.accuracy.ensures) (λ c κs. search rules) (λ c κs. search rules) (λ c κs. made_formed _ _ (last2-is c))
    (λ c. rw c.in-1.is (made_width _ 1 (last-is c.before) c.width.ensures))
    (λ c. rw c.in-2.is (made_width _ 2 (orbit-is c.before) c.width-in-2.ensures))
    (λ c. rw c.in-3.is (made_width _ 3 (orbit2-is c.before) c.width-in-3.ensures))
    (λ c. rw c.in-4.is (made_width 0 4 c.clock.ensures c.width-in-4.ensures))
    (λ c. rw c.in-5.is (made_width 0 5 c.code.ensures c.width-in-5.ensures))
    (λ c. rw c.in-6.is (made_width 0 6 c.phase.ensures c.width-in-6.ensures))
    (λ c. rw c.in-7.is (made_width 0 7 c.packet.ensures c.width-in-7.ensures))
    (λ c. rw c.in-9.is (made_width 0 9 c.phases.ensures c.width-in-9.ensures))
    (λ c. rw c.in-10.is (made_width 0 5 c.code-in-10.ensures c.width-in-10.ensures))
    (λ c. rw c.in-11.is (made_width 0 11 c.both.ensures c.width-in-11.ensures))
    (λ c. rw c.in-12.is (made_width 0 12 c.accuracy.ensures c.width-in-12.ensures))
    (λ c. made_width _ _ (last2-is c.before) c.width-in_default.ensures))
