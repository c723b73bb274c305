-- Where programs end that run from a place on: one after the other, and by the fields that the code took. Assumes nothing.
use Rattle.std.specs.Prelude.{Ok, Err}
use mathlib.Core.Path.{◌≡◌, refl, sym, ap, ◌∙◌}
use mathlib.Core.Bool.{Bool, true, false, cond}
use mathlib.Core.List.{List}
use Prim.Native.Nat.{ℕ, ◌+◌, ◌-◌, ◌^◌, ◌≤◌, ◌<◌}
use native.Mathlib.Nat.{add-zero, mod-eq_of_lt}
use native.Mathlib.Decide.{dec_lt}
use native.Mathlib.Omega.{arith}
use lib.ListN.{take}
use Rattle.format.specs.Ends.{Within, end_from}
use Rattle.bits.proofs.BitLists.{number_spell}
use Rattle.bits.proofs.Fields.{field_lt}
use Rattle.bits.proofs.Short.{field_whole, field_short}
use Rattle.bits.specs.BitLists.{number, spell}
use Rattle.bits.specs.declared.read.Short as Bits
use Rattle.bits.specs.Places.{field}
use Rattle.bits.specs.Short.{taken_at}
use Rattle.format.proofs.Placed.{length_from, take_from, drop_from}
use Rattle.format.proofs.Runs.{run_field, run_short, later_later, run_bind, run_bind_badly, taken_le, not_well}
use Rattle.format.proofs.Steps.{Gives}
use Rattle.format.specs.declared.Refusal.{Refusal}
use Rattle.format.specs.declared.Refusal.TheVariants.{Short}
use Rattle.format.specs.Programs.{Program, done, ◌>>=◌, ◌>>◌, taking, numbered, require, Ended, well, badly, later, run}
use Rattle.format.specs.Reading.{bits_from}

-- ---- a program's end, a test

module _ {A : Type 0} (bs : List ℕ) (end place : ℕ) where
  pub done_end : (a : A) → end_from (done a) bs end place ≡ well a place
  unfolding end_from run later
  done_end a = rw add-zero

  pub test_end : (t : Bool) (r : Refusal) (p : Program A) → end_from (require t r >> p) bs end place ≡ cond t (end_from p bs end place) (badly r 0)
  unfolding end_from require ◌>>◌ ◌>>=◌ run later
  test_end true r p = refl
  test_end false r p = refl

  pub test_began : (t : Bool) (r : Refusal) (p : Program A) {a : A} {next : ℕ} → end_from (require t r >> p) bs end place ≡ well a next → (t ≡ true) × (end_from p bs end place ≡ well a next)
  unfolding end_from require ◌>>◌ ◌>>=◌ run later
  test_began true r p e = (refl, e)
  test_began false r p {a} {next} e = absurd (not_well r 0 a next e)

-- ---- what a run that ended well says

module _ {A : Type 0} where
  -- how many bits it took
  took : (place : ℕ) (e : Ended A) {a : A} {next : ℕ} → later place e ≡ well a next → (taken : ℕ) × (e ≡ well a taken) × (next ≡ place + taken)
  unfolding later
  took place (well b taken) same = (taken, cc, cc)
  took place (badly r missing) same = absurd (let z : ◌≡◌ {A = ℕ} 0 1 = cc in omega arith)

  -- by how it ended, beside the equation
  pub by_end : (P : Ended A → Type 0) (e : Ended A) → ((a : A) (next : ℕ) → e ≡ well a next → P (well a next)) → ((r : Refusal) (missing : ℕ) → e ≡ badly r missing → P (badly r missing)) → P e
  by_end P (well a next) fine not = fine a next refl
  by_end P (badly r missing) fine not = not r missing refl

module _ {bs : List ℕ} {end place : ℕ} (at : Within bs end place) where
  -- a later place
  pub onward : {next : ℕ} → next ≤ end → Within bs end next
  onward room = record { inside = at.inside; short = at.short; room = room }

  module _ {A : Type 0} (p : Program A) where
    pub ended_at_lem : {a : A} {next : ℕ} → end_from p bs end place ≡ well a next → Within bs end next
    unfolding end_from
    ended_at_lem same =
        let l = bits_from bs end place in
        let it = took place (run p l) same in
        onward (omega (arith, it.2, taken_le p l _ it.0 it.1, length_from bs end at.inside place, at.room))

    -- what such a program gives
    pub gave : {P : A → List Bool → Type 0} {a : A} {next : ℕ} → Gives p P → end_from p bs end place ≡ well a next → (taken : ℕ) × P a (take taken (bits_from bs end place))
    unfolding end_from
    gave {P} {a} g same =
        let it = took place (run p (bits_from bs end place)) same in
        (it.0, g.gives (bits_from bs end place) a it.0 it.1)

    -- ---- one after the other

    module _ {B : Type 0} (k : A → Program B) where
      pub then_well : {a : A} {next : ℕ} → end_from p bs end place ≡ well a next → end_from (p >>= k) bs end place ≡ end_from (k a) bs end next
      unfolding end_from
      then_well {a} same =
          let l = bits_from bs end place in
          let it = took place (run p l) same in
          ap (later place) (run_bind p k l a it.0 it.1 ∙ ap (λ (m : List Bool). later it.0 (run (k a) m)) (drop_from bs end at.inside place it.0))
          ∙ later_later place it.0 (run (k a) (bits_from bs end (place + it.0)))
          ∙ ap (λ (n : ℕ). later n (run (k a) (bits_from bs end n))) (sym it.2)

      pub then_badly : {r : Refusal} {missing : ℕ} → end_from p bs end place ≡ badly r missing → end_from (p >>= k) bs end place ≡ badly r missing
      unfolding end_from later
      then_badly {r} {missing} same = go (run p (bits_from bs end place)) refl same
        where
          go : (e : Ended A) → run p (bits_from bs end place) ≡ e → later place e ≡ badly r missing → later place (run (p >>= k) (bits_from bs end place)) ≡ badly r missing
          go (well a taken) ran same = absurd (let z : ◌≡◌ {A = ℕ} 0 1 = cc in omega arith)
          go (badly q lost) ran same =
              let why : q ≡ r = cc in
              let count : lost ≡ missing = cc in
              ap (later place) (run_bind_badly p k (bits_from bs end place) q lost ran) ∙ rw (why, count)

  -- ---- a field

  module _ {A : Type 0} (w : ℕ) where
    pub bits_there : (k : List Bool → Program A) → place + w ≤ end → end_from (taking w >>= k) bs end place ≡ end_from (k (spell w (field bs place w))) bs end (place + w)
    unfolding end_from taking ◌>>=◌
    bits_there k room =
        ap (later place) (run_field w k (bits_from bs end place) (rw (length_from bs end at.inside place) (omega arith)) ∙ rw (take_from bs end at.inside place w room, drop_from bs end at.inside place w))
        ∙ later_later place w _

    pub bits_cut : (k : List Bool → Program A) → end - place < w → end_from (taking w >>= k) bs end place ≡ badly Short (w - (end - place))
    unfolding end_from taking ◌>>=◌ later
    bits_cut k short = ap (later place) (run_short w k (bits_from bs end place) (rw (length_from bs end at.inside place) short)) ∙ rw (length_from bs end at.inside place)

    pub number_there : (k : ℕ → Program A) → place + w ≤ end → end_from (numbered w >>= k) bs end place ≡ end_from (k (field bs place w)) bs end (place + w)
    unfolding taking numbered ◌>>=◌
    number_there k room = bits_there (λ b. k (number b)) room ∙ rw (number_spell w (field bs place w), mod-eq_of_lt (field_lt bs place w))

    pub number_cut : (k : ℕ → Program A) → end - place < w → end_from (numbered w >>= k) bs end place ≡ badly Short (w - (end - place))
    unfolding taking numbered ◌>>=◌
    number_cut k short = bits_cut (λ b. k (number b)) short

    -- and back: one that ended well took it
    pub number_began : (k : ℕ → Program A) {a : A} {next : ℕ} → end_from (numbered w >>= k) bs end place ≡ well a next → (place + w ≤ end) × (end_from (k (field bs place w)) bs end (place + w) ≡ well a next)
    number_began k {a} {next} e = go (dec_lt (end - place) w)
      where
        go : Dec (end - place < w) → (place + w ≤ end) × (end_from (k (field bs place w)) bs end (place + w) ≡ well a next)
        go (yes short) = absurd (not_well Short _ a next (sym (number_cut k short) ∙ e))
        go (no over) = let room : place + w ≤ end = omega (arith, at.room) in (room, sym (number_there k room) ∙ e)

  -- as the code took it
  module _ (w : ℕ) {n : ℕ} (e : taken_at bs end place w ≡ Ok n) where
    there : place + w ≤ end
    there = omega (arith, (field_whole bs end place w n e).0, at.room)

    is_field : field bs place w ≡ n
    is_field = sym (field_whole bs end place w n e).1

    pub after_field : Within bs end (place + w)
    after_field = onward there

    pub fits : n < 2 ^ w
    fits = rw is_field at (field_lt bs place w)

    pub bits_whole : {A : Type 0} (k : List Bool → Program A) → end_from (taking w >>= k) bs end place ≡ end_from (k (spell w n)) bs end (place + w)
    bits_whole k = rw is_field at (bits_there w k there)

    pub number_whole : {A : Type 0} (k : ℕ → Program A) → end_from (numbered w >>= k) bs end place ≡ end_from (k n) bs end (place + w)
    number_whole k = rw is_field at (number_there w k there)

  module _ {A : Type 0} (w : ℕ) {s : Bits.Short} (e : taken_at bs end place w ≡ Err s) where
    pub bits_short : (k : List Bool → Program A) → end_from (taking w >>= k) bs end place ≡ badly Short s.missing
    bits_short k =
        let it = field_short bs end place w s e in
        bits_cut w k it.0 ∙ ap (badly Short) (sym it.1)

    pub number_short : (k : ℕ → Program A) → end_from (numbered w >>= k) bs end place ≡ badly Short s.missing
    number_short k =
        let it = field_short bs end place w s e in
        number_cut w k it.0 ∙ ap (badly Short) (sym it.1)
