use Rattle.std.proofs.Common.{sym, ap, ◌∙◌}
use Rattle.std.specs.Option.{option_copied}
use Rattle.lister.proofs.Pieces.{line_ends, line_stays, input_ends, nothing_comes}
use Rattle.lister.proofs.gather.gather.Goals as goal

pub returns-in-Some-clause-value : goal.returns-in-Some-clause-value
returns-in-Some-clause-value c =
    let x = c.args in
    let last = sym (ap option_copied c.in-Some.is) ∙ c.last.ensures.value in
    let work = line_ends _ x.filled x.piece.now c.up_to-taken.ensures.value c.keep-to.ensures.value last c.if-last-eq-LINE_FEED.true in
    λ i. record { work = work i; taken = c.up_to-taken.ensures.value i }

pub returns-in-None-clause-value : goal.returns-in-None-clause-value
returns-in-None-clause-value c =
    let x = c.args in
    let last = sym (ap option_copied c.in-None.is) ∙ c.last.ensures.value in
    let work = input_ends _ x.filled x.piece.now c.up_to-taken.ensures.value c.keep-to.ensures.value last c.requires c.if-filled-gt0.true in
    λ i. record { work = work i; taken = c.up_to-taken.ensures.value i }

pub returns-in_default-clause-value : goal.returns-in_default-clause-value
returns-in_default-clause-value c =
    let x = c.args in
    let last = sym (ap option_copied c.in-Some.is) ∙ c.last.ensures.value in
    let work = line_stays _ x.filled x.piece.now c.up_to-taken.ensures.value c.keep-to.ensures.value last c.if-last-eq-LINE_FEED.false in
    λ i. record { work = work i; taken = c.up_to-taken.ensures.value i }

pub returns-in_default-2-clause-value : goal.returns-in_default-2-clause-value
returns-in_default-2-clause-value c =
    let x = c.args in
    let last = sym (ap option_copied c.in-None.is) ∙ c.last.ensures.value in
    let work = nothing_comes _ x.filled x.piece.now c.up_to-taken.ensures.value c.keep-to.ensures.value last c.requires c.if-filled-gt0.false in
    λ i. record { work = work i; taken = c.up_to-taken.ensures.value i }
