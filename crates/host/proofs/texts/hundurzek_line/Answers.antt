use Rattle.std.proofs.Common.{ℕ, ◌+◌, ◌/◌, ◌≤◌, length, refl, sym, ap, ◌∙◌, arith}
use Rattle.format.specs.Answers.{done}
use Rattle.format.specs.Listing.{line_says}
use Rattle.host.specs.Texts.{done_handed, done_taking, stretch_after}
use Rattle.host.proofs.HandedLines.{none_taken, says_whole, no_room, stretch_taken, stretch_over}
use Rattle.lines.proofs.SaidStretches.{bad_so, says_asked}
use Rattle.host.proofs.texts.hundurzek_line.Goals as goal

pub returns-in_default : goal.returns-in_default
unfolding done_taking stretch_after
returns-in_default c =
    let x = c.args in
    rw (none_taken (line_says x.line.now) x.bytes.now (bad_so _ (sym c.said_by.ensures ∙ c.in_default.is)))
    record { value = c.refuse.ensures; bytes_after = refl }

pub returns-then-bytes-div_ceil : goal.returns-then-bytes-div_ceil
unfolding done_taking stretch_after
returns-then-bytes-div_ceil c =
    let line = c.args.line.now in
    rw (no_room line (says_whole line (sym c.said_by.ensures ∙ c.in-Some.is)) c.args.bytes.now (omega arith))
    record { value = c.refuse-then-bytes-div_ceil.ensures; bytes_after = refl }

pub stretch_of-requires : goal.stretch_of-requires
stretch_of-requires c =
    let line = c.args.line.now in
    let asked = says_asked line (length line) (says_whole line (sym c.said_by.ensures ∙ c.in-Some.is)) in
    (asked.0, asked.1, asked.2, omega arith)

pub returns : goal.returns
unfolding done_taking stretch_after
returns c =
    let line = c.args.line.now in
    let old = c.args.bytes.now in
    let it = says_whole line (sym c.said_by.ensures ∙ c.in-Some.is) in
    let room : (c.in-Some.said.bits + 7) / 8 ≤ length old = omega arith in
    rw (stretch_taken line it old room)
    record {
      value = c.finish.ensures ∙ ap (λ (m : ℕ). done_handed (done m)) it.long;
      bytes_after = stretch_over line it old room c.stretch_of.ensures;
    }
