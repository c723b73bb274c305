-- `holding::Holding::is_sound` meets its contract. Assumes nothing.
use Rattle.bits.proofs.Words.{ap, ◌∙◌, rules}
use Rattle.holding.specs.declared.Outline.{Outline}
use Rattle.holding.specs.Outlines.{whole_of}
use Rattle.holding.specs.Pictures.{sound}
use Rattle.holding.proofs.Holding.is_sound.Statement.{statement}
use Rattle.holding.proofs.Holding.is_sound.Tie as tie

returns : tie.Need-returns
returns c =
    let h = c.args.self in
    c.is_sound.ensures ∙ ap (λ (o : Outline). sound (whole_of o h.satellites h.strips)) c.outline-outline.ensures

pub is_sound_spec : {M : Type 1} → statement M
is_sound_spec = tie.close (tie.spec (λ c κs. search rules) (λ c κs. search rules) returns)
