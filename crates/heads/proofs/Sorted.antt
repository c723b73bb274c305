-- Reading a message by its sub type is crate format's reading: its opening, then its heading and body, or a mask. Assumes nothing.
use Rattle.bits.proofs.Words.{◌≡◌, refl, ap, ◌∙◌, Bool, true, false, List, ℕ, zero, suc, ◌+◌, ◌-◌, eqb, take, ℤ}
use native.Mathlib.Nat.{add-zero}
use Rattle.format.specs.declared.Refusal.TheVariants.{OtherIssue}
use Rattle.format.specs.Ends.{Within, end_from}
use Rattle.format.specs.Masks.{Held, nothing, mask, lent, Sky, sky_of}
use Rattle.format.specs.Messages as Messages
use Rattle.format.specs.Messages.{Common, common, bodied, body, mask_message}
use Rattle.format.specs.Programs.{Program, done, ◌>>=◌, ◌>>◌, require, Ended, well, badly, later, unless_short, run}
use Rattle.format.specs.Reading.{Outcome, refused, settled, ended_at, bits_from}
use Rattle.format.specs.Rows.{body_width, rows_of}
use Rattle.format.specs.Table.{Message, gate, under_mask, keeping, by_kind}
use Rattle.format.proofs.Ends.{by_end, then_well, then_badly}
use Rattle.format.proofs.Placed.{length_from}
use Rattle.format.proofs.Runs.{run_bind, run_bind_badly, bind_assoc}
use Rattle.format.proofs.Steadiness.{steady_itself}
use Rattle.heads.specs.Headings.{gate_by, gated_by, under_by}
use Rattle.heads.specs.Sorting.{heading_for, under_with, bodied_by, headed_at, mask_said, adopted_by, seen_of, sky_held}
use Rattle.holding.specs.Held.{is_held, issue_of, satellites_held, cells_held}
use Rattle.table.specs.declared.Kind.{Kind}
use Rattle.table.specs.declared.Kind.TheVariants.{Other, Mask as IsMask, Packet, Masked}
use Rattle.table.specs.declared.Layout.{Layout}
use Rattle.table.specs.Kinds.{program_by, masked_by, kind_by}

-- ---- an outcome by the place where a program ends

unfoldable pub ended_by : Held → Ended Message → Outcome
ended_by held (well m next) = settled held m next
ended_by held (badly r missing) = refused r missing (lent held)

pub ended_from : (held : Held) (place : ℕ) (e : Ended Message) → ended_at held place e ≡ ended_by held (later place e)
unfolding ended_at ended_by later
ended_from held place (well m taken) = refl
ended_from held place (badly r missing) = refl

module _ {bs : List ℕ} {end place : ℕ} (at : Within bs end place) (held : Held) where
  -- a heading, then its body
  abbrev with_rows : Messages.Heading → List (List ℤ) → Message
  with_rows d rows = record { content = record { head = d.head; rows = rows }; after = held }

  abbrev then_body : Messages.Heading → Program Message
  then_body d = body d.lines >>= (λ rows. done (with_rows d rows))

  -- a body is there or short
  body_ended : (d : Messages.Heading) (next : ℕ) → ended_by held (end_from (then_body d) bs end next) ≡ headed_at held bs end (well d next)
  unfolding end_from body ◌>>=◌ run headed_at bodied_by ended_by unless_short later
  body_ended d next = rw (length_from bs end at.inside next) (go (body_width d.lines - (end - next)))
    where
      go : (missing : ℕ)
          → let m = with_rows d (rows_of d.lines (take (body_width d.lines) (bits_from bs end next))) in
          ended_by held (later next (unless_short missing (well m (body_width d.lines + 0)))) ≡ bodied_by held m (next + body_width d.lines) missing
      go zero = rw (add-zero, steady_itself held)
      go (suc missing) = refl

  keeping_parts : (p : Program Messages.Heading) → keeping held p ≡ p >>= then_body
  unfolding keeping bodied body ◌>>=◌
  keeping_parts p = bind_assoc p _ _

  keeping_ended : (p : Program Messages.Heading) → ended_at held place (run (keeping held p) (bits_from bs end place)) ≡ headed_at held bs end (end_from p bs end place)
  unfolding end_from headed_at ended_by
  keeping_ended p =
      rw (keeping_parts p) (ended_from held place _)
      ∙ by_end (λ e. ended_by held (end_from (p >>= then_body) bs end place) ≡ headed_at held bs end e) (end_from p bs end place)
      (λ d next ran. ap (ended_by held) (then_well at p then_body ran) ∙ body_ended d next)
      (λ r missing ran. ap (ended_by held) (then_badly at p then_body ran))

-- ---- a mask

abbrev made : Messages.Adopted → Program Message
made d = done (mask_said d)

pub adopted_ended : (held : Held) (place : ℕ) (n : ℕ) (l : List Bool) → ended_at held place (run (by_kind (kind_by n IsMask) held) l) ≡ adopted_by held place (run mask_message l)
unfolding by_kind kind_by adopted_by ended_at later run
adopted_ended held place n l = go (run mask_message l) refl
  where
    go : (e : Ended Messages.Adopted) → run mask_message l ≡ e → ended_at held place (run (mask_message >>= made) l) ≡ adopted_by held place e
    go (well d taken) ran = ap (ended_at held place) (run_bind mask_message made l d taken ran) ∙ rw add-zero
    go (badly r missing) ran = ap (ended_at held place) (run_bind_badly mask_message made l r missing ran)

-- ---- under a mask: the gate by what is held

gate_then : (held : Held) (k : Sky → Program Messages.Heading) (issue : ℕ)
    → gate held issue >>= (λ m. k (sky_of m)) ≡ gate_by (is_held held) (issue_of held) issue >> k (sky_held held)
unfolding gate gate_by is_held issue_of satellites_held cells_held sky_of require ◌>>◌ ◌>>=◌
gate_then nothing k issue = refl
gate_then (mask m) k issue = go (eqb issue m.iod)
  where
    go : (test : Bool) → (require test OtherIssue >> done m) >>= (λ m. k (sky_of m)) ≡ require test OtherIssue >> k (sky_of m)
    go true = refl
    go false = refl

under_seen : (held : Held) (n count : ℕ) (l : Layout) → under_mask (masked_by n l) held ≡ under_by (under_with (seen_of held count n) l) (sky_held held)
unfolding under_mask under_by gated_by masked_by
under_seen held n count l = ap (λ (k : Common → Program Messages.Heading). common 12 >>= k) (λ i h. gate_then held (λ sky. program_by n l sky h) h.iod i)

-- ---- by its kind

module _ {bs : List ℕ} {end place : ℕ} (at : Within bs end place) (held : Held) (n count : ℕ) where
  pub kind_ended : (kind : Kind) → (kind ≡ IsMask → ⊥)
      → ended_at held place (run (by_kind (kind_by n kind) held) (bits_from bs end place)) ≡ headed_at held bs end (end_from (heading_for kind (seen_of held count n) (sky_held held)) bs end place)
  unfolding by_kind kind_by heading_for ended_at headed_at end_from later run
  kind_ended Other other = refl
  kind_ended IsMask other = absurd (other refl)
  kind_ended Packet other = keeping_ended at held Messages.packet
  kind_ended (Masked l) other = keeping_ended at held (under_mask (masked_by n l) held) ∙ rw (under_seen held n count l)
