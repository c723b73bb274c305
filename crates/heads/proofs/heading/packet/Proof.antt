-- `heads::heading::packet` meets its contract. Assumes nothing.
use Rattle.bits.proofs.Words.{◌≡◌, refl, sym, ap, ◌∙◌, List, ℕ, ◌+◌, ◌/◌, ◌%◌, ◌<◌, add-one, arith, rules}
use mir.Facts.{to_z_pos}
use mir.Syntax.{w32}
use Rattle.bits.specs.declared.read.Short.{Short}
use Rattle.std.specs.Prelude.{Result}
use Rattle.bits.specs.Short.{taken_at, bits_of, widths_of}
use Rattle.bits.proofs.Short.{field_whole, field_short}
use Rattle.format.proofs.Ends.{onward, fits}
use Rattle.format.specs.Ends.{Within}
use Rattle.format.specs.declared.Refusal.TheVariants as Refusal
use Rattle.format.specs.Programs.{badly}
use Rattle.format.specs.Messages.{packet_heading}
use Rattle.heads.specs.Fronts.{Opens}
use Rattle.heads.specs.Headings.{said_by, FitsHeading, HasBody, packet_body}
use Rattle.heads.proofs.Headed.{packet_of, packet_there, packet_short}
use Rattle.heads.proofs.heading.packet.Statement.{statement}
use Rattle.heads.proofs.heading.packet.Tie as tie
use Rattle.table.specs.declared.Keys.TheVariants.{Parts}
use Rattle.table.specs.Bodies.{lines_in, lines_over, FitsKeys}

-- the six bits as they were taken, of any string with this front
module _ (c : tie.After-taken-taken) where
  abbrev start : tie.Start
  start = c.before.before

  module _ {bs : List ℕ} (opens : Opens bs start.args.f) where
    at : Within bs start.args.f.end (start.args.f.start + 16)
    at = onward opens.within start.requires.1

    is : {t : Result ℕ Short} → c.taken-taken.result ≡ t → taken_at bs start.args.f.end (start.args.f.start + 16) 6 ≡ t
    is e = sym (c.taken-taken.ensures bs opens) ∙ e

returns-in-Err : tie.Need-returns-in-Err
unfolding said_by FitsHeading HasBody widths_of
returns-in-Err c =
    let took = c.before.before.before in
    (λ bs opens v. ap (badly Refusal.Short) c.short_by.ensures ∙ sym (packet_short (at took opens) (is took opens c.in-Err.is)), λ bs opens. record { fits = tt; this = tt })

-- where they are there
module _ (c : tie.In-Ok) where
  abbrev took : tie.After-taken-taken
  took = c.before

  abbrev n : ℕ
  n = c.in-Ok.n

  small : n < 64
  small = let o = (start took).requires.0.opens in fits (at took o) 6 (is took o c.in-Ok.is)

returns-in-Ok : tie.Need-returns-in-Ok
unfolding said_by FitsHeading HasBody packet_body FitsKeys lines_in lines_over packet_of packet_heading
returns-in-Ok c = (
  λ bs opens v.
      rw (
        packet_there (at (took c) opens) (is (took c) opens c.in-Ok.is),
        to_z_pos w32 {n = n c / 32} (omega (arith, small c)),
        to_z_pos w32 {n = n c / 4 % 8} (omega arith),
        to_z_pos w32 {n = n c % 4} (omega arith),
        add-one (n c % 4),
      ),
  λ bs opens.
      record {
        fits = (omega arith, refl);
        this = ap (λ (k : ℕ). record { keys = Parts (k % 4 + 1); shape = 7 }) (field_whole _ _ _ 6 _ (is (took c) opens c.in-Ok.is)).1;
      },
)

pub packet_spec : {M : Type 1} → statement M
unfolding bits_of widths_of
packet_spec =
    tie.close
    (tie.spec (λ c. search rules) (λ c κs. search rules) (λ c. search rules) (λ c. search rules)
    (λ c κs. let took = c.before.before in (field_short _ _ _ 6 _ (is took (start took).requires.0.opens c.in-Err.is)).0)
    (λ c. search rules) (λ c. record { sfits = omega (arith, small c) }) (λ c. search rules) (λ c. search rules) (λ c. search rules) (λ c. search rules) returns-in-Err
    returns-in-Ok)
