-- What the reader makes of a mask message. Assumes nothing.
use Rattle.bits.proofs.Words.{◌≡◌, refl, sym, ap, ◌∙◌, Bool, true, false, cond, not, List, ℕ, ◌+◌}
use borrow.Author.Tests.{not-true, not-false}
use Rattle.adoption.proofs.MaskHead.{head_there}
use Rattle.adoption.specs.Adoptions.{Made, dropped, made_by, head_at}
use Rattle.adoption.specs.declared.Ending.TheVariants.{Behind}
use Rattle.format.specs.declared.Answer.TheVariants.{Message, Refused}
use Rattle.format.specs.declared.Head.{Head}
use Rattle.format.specs.Ends.{Within, end_from}
use Rattle.format.specs.Masks.{mask}
use Rattle.format.specs.Messages.{Adopted, mask_message}
use Rattle.format.specs.Programs.{Ended, well, badly, later, run}
use Rattle.format.specs.Reading as Reading
use Rattle.format.specs.Reading.{accepted, lent_after, answer_of, bits_from}
use Rattle.format.specs.Steady.{steady}
use Rattle.heads.specs.Sorting.{mask_said, adopted_by}
use Rattle.holding.specs.declared.Holding.{Holding}
use Rattle.holding.specs.declared.Outline.{Outline}
use Rattle.holding.specs.Pictures.{picture_of, mask_of, sound}
use Rattle.reader.specs.declared.Reading.{Reading}
use Rattle.reader.specs.Readings.{struct_of, ending_answer, reading_of}
use Rattle.reader.proofs.Lents.{kept}

-- what the code makes of one with this head, as a reading
abbrev pub as_reading : Head → Made → Reading
as_reading head m = record { answer = ending_answer head m.ending; holding = m.holding }

-- by how its program ends, where that has this head
ended_reads : (h : Holding) → sound h ≡ true → (head : Head) (place : ℕ) (e : Ended Adopted) → ((d : Adopted) (taken : ℕ) → e ≡ well d taken → d.head ≡ head)
    → as_reading head (made_by h (later place e)) ≡ reading_of h (adopted_by (mask_of h) place e)
unfolding made_by later reading_of struct_of lent_after answer_of adopted_by ending_answer
ended_reads h fine head place (well d taken) same = go (steady (mask_of h) (mask d.made))
  where
    go : (b : Bool)
        → as_reading head (cond b (record { ending = Behind (place + taken); holding = picture_of (mask d.made) }) dropped)
        ≡ reading_of h (cond b (accepted (mask_said d) (place + taken)) Reading.dropped)
    go true = ap (λ (k : Head). record { answer = Message k (place + taken) 0; holding = picture_of (mask d.made) }) (sym (same d taken refl))
    go false = refl
ended_reads h fine head place (badly r missing) same = ap (λ (g : Holding). record { answer = Refused r missing; holding = g }) (sym (kept h fine))

-- is what reading there comes to, with the head that stands there
pub made_reads : (h : Holding) → sound h ≡ true → {bs : List ℕ} {end place : ℕ} → Within bs end place → {m : Made} → m ≡ made_by h (end_from mask_message bs end place)
    → as_reading (head_at bs place) m ≡ reading_of h (adopted_by (mask_of h) place (run mask_message (bits_from bs end place)))
unfolding end_from later
made_reads h fine {bs} {end} {place} at is =
    ap (as_reading (head_at bs place)) is ∙ ended_reads h fine (head_at bs place) place (run mask_message (bits_from bs end place)) (λ d taken ran. head_there at (ap (later place) ran))

-- the outline of what is held then, by whether that was kept
module _ (kept : Bool) (old new : Outline) {held : Outline} where
  pub new_outline : not kept ≡ true → held ≡ new → held ≡ cond kept old new
  new_outline e is = rw (not-true kept e) is

  pub old_outline : not kept ≡ false → held ≡ old → held ≡ cond kept old new
  old_outline e is = rw (not-false kept e) is
