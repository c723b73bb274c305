-- A message written for C: the numbers of a head, and what is handed back. Assumes nothing.
use Rattle.bits.proofs.Words.{◌≡◌, refl, ap, ◌∙◌, Bool, true, false, cond, List, [], ◌∷◌, ℕ, zero, suc, ◌+◌, ◌^◌, ◌≤◌, ◌<◌, arith, leb, length, get_or, ℤ, pos}
use lib.Signed.{mag}
use mir.Facts.{to_z-of_z}
use mir.Syntax.{w32}
use mir.Val.{of_z, to_z}
use Rattle.format.specs.declared.Head.{Head}
use Rattle.format.specs.declared.Refusal.{Refusal}
use Rattle.format.specs.declared.Refusal.TheVariants.{Place, Value}
use Rattle.format.specs.Answers as Answers
use Rattle.format.specs.Good.{good, is_holding}
use Rattle.format.specs.Masks.{stray}
use Rattle.format.specs.Rows.{absent}
use Rattle.format.specs.Tests.{Test, verdict}
use Rattle.format.specs.Writing.{Written, wrote, refused, limit, writing, done_writing, bytes_after}
use Rattle.holding.specs.Building.{with_system}
use Rattle.holding.specs.Pictures.{picture_of, mask_of, same_holding, sound, lent_by}
use Rattle.passing.specs.Passing as Passing
use Rattle.passing.specs.Passing.{passes, holding_in}
use Rattle.writer.specs.declared.Writing.TheVariants as Writings
use Rattle.writer.specs.Stages.{answered}
use Rattle.host_write.specs.Writes.{without_holding}

-- what is not lent
pub no_number : (l : List ℤ) (i : ℕ) → length l ≤ i → absent ≡ get_or l i absent
no_number [] i past = refl
no_number (x ∷ xs) zero past = absurd (omega arith)
no_number (x ∷ xs) (suc i) past = no_number xs i (omega arith)

-- and what is, whatever stands for those that are not
pub lent_number : (l : List ℤ) (i : ℕ) → suc i ≤ length l → (d : ℤ) → get_or l i d ≡ get_or l i absent
lent_number [] i inside d = absurd (omega arith)
lent_number (x ∷ xs) zero inside d = refl
lent_number (x ∷ xs) (suc i) inside d = lent_number xs i (omega arith) d

-- a number that was handed on in a struct
pub read_back : {x y : ℤ} → mag x < 2 ^ 31 → x ≡ y → to_z w32 (of_z w32 x) ≡ y
read_back {x} small e = to_z-of_z {w = w32} {z = x} (record { sfits = small }) ∙ e

-- one that was read from the lent numbers, handed on in a struct
pub lent_back : (l : List ℤ) (i : ℕ) → suc i ≤ length l → mag (get_or l i (pos 0)) < 2 ^ 31 → to_z w32 (of_z w32 (get_or l i (pos 0))) ≡ get_or l i absent
lent_back l i inside small = read_back small (lent_number l i inside (pos 0))

-- the code's answers are the paper's
pub done_at : (start place : ℕ) (w : Written) → Writings.Done place ≡ answered start w → (start ≤ place) × (Answers.done place ≡ done_writing start w)
unfolding answered done_writing
done_at start place (wrote bits) e =
    let same : place ≡ start + length bits = cc in
    (omega arith, ap Answers.done same)
done_at start place (refused r) e = absurd (let z : ◌≡◌ {A = ℕ} 0 1 = cc in omega arith)

pub refused_at : (start : ℕ) (w : Written) {r : Refusal} → Writings.Refused r ≡ answered start w → Answers.undone_at start r ≡ done_writing start w
unfolding answered done_writing
refused_at start (wrote bits) e = absurd (let z : ◌≡◌ {A = ℕ} 0 1 = cc in omega arith)
refused_at start (refused s) e = ap (Answers.undone_at start) cc

-- bytes that do not pass say no holding, so that nothing is written
stray_lent : lent_by Passing.stray ≡ stray
unfolding lent_by sound Passing.stray with_system picture_of mask_of same_holding good
stray_lent = refl

pub not_held : (hb : List ℕ) → passes hb ≡ false → lent_by (holding_in hb) ≡ stray
unfolding holding_in
not_held hb e = rw e stray_lent

second_fails : (b : Bool) (w : Written) (ts : List Test) → cond b (refused Value) (refused Place) ≡ verdict refused w (record { holds = b; else = Place } ∷ record { holds = false; else = Value } ∷ ts)
unfolding verdict
second_fails true w ts = refl
second_fails false w ts = refl

pub no_writing : (h : Head) (rows : List ℤ) (count : ℕ) (bytes : List ℕ) (start : ℕ) → without_holding bytes start ≡ writing stray h rows count bytes start
unfolding without_holding writing is_holding
no_writing h rows count bytes start = second_fails (leb start (limit bytes)) _ _

pub nothing_set : (bytes : List ℕ) (start : ℕ) → bytes ≡ bytes_after (without_holding bytes start) bytes start
unfolding without_holding bytes_after
nothing_set bytes start = go (leb start (limit bytes))
  where
    go : (b : Bool) → bytes ≡ bytes_after (cond b (refused Value) (refused Place)) bytes start
    go true = refl
    go false = refl
