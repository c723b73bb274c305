-- Where crate format's program of a common head ends, by its bits as the code takes them: at once; and back from what the code made of them. Assumes nothing.
use Rattle.bits.proofs.Words.{◌≡◌, refl, ap, ◌∙◌, List, [], ◌∷◌, ℕ, ◌+◌, ◌-◌, ◌/◌, ◌%◌, ◌^◌, ◌≤◌, ◌<◌, arith, get_or}
use native.Mathlib.Nat.{lt_of_lt_of_le}
use lib.Pow.{pow_mono}
use Rattle.bits.specs.declared.read.Short as Bits
use Rattle.std.specs.Prelude.{Result, Ok, Err}
use Rattle.bits.specs.Short.{taken_at, bits_of, short_by}
use Rattle.format.proofs.Ends.{done_end, after_field, fits}
use Rattle.format.proofs.Together.{together, parts_of, fields_whole, fields_short}
use Rattle.format.specs.declared.Refusal.TheVariants.{Short}
use Rattle.format.specs.Ends.{Within, end_from}
use Rattle.format.specs.Messages.{Common, common}
use Rattle.format.specs.Programs.{Program, done, ◌>>=◌, numbered, well, badly}
use Rattle.heads.specs.declared.CommonHead.{CommonHead}
use Rattle.heads.specs.Heads.{common_of, head_for, head_from, common_by, Small}

-- from its four fields
with_fields : List ℕ → Program Common
with_fields ns = done (record { epoch = get_or ns 0 0; interval = get_or ns 1 0; indicator = get_or ns 2 0; iod = get_or ns 3 0 })

small_head : (w n : ℕ) → w ≤ 20 → n < 2 ^ (w + 9) → Small (head_from n)
unfolding head_from
small_head w n few fit =
    let low : n < 2 ^ 29 = lt_of_lt_of_le fit (pow_mono {i = w + 9} {j = 29} (omega arith)) in
    record { epoch = omega arith; interval = omega arith; indicator = omega arith; iod = omega arith }

module _ {bs : List ℕ} {end place : ℕ} (at : Within bs end place) (w : ℕ) where
  common_there : {n : ℕ} → taken_at bs end place (w + 9) ≡ Ok n → end_from (common w) bs end place ≡ well (common_of (head_from n)) (place + (w + 9))
  unfolding common together with_fields bits_of parts_of numbered ◌>>=◌ common_of head_from
  common_there {n} e =
      let b : n % 512 / 32 ≡ n / 32 % 16 = omega arith in
      let c : n % 512 % 32 / 16 ≡ n / 16 % 2 = omega arith in
      let d : n % 512 % 32 % 16 / 1 ≡ n % 16 = omega arith in
      fields_whole at (w ∷ 4 ∷ 1 ∷ 4 ∷ []) with_fields e ∙ rw (done_end, b, c, d)

  common_cut : {s : Bits.Short} → taken_at bs end place (w + 9) ≡ Err s → end_from (common w) bs end place ≡ badly Short (short_by (w ∷ 4 ∷ 1 ∷ 4 ∷ []) (end - place))
  unfolding common together with_fields bits_of numbered ◌>>=◌
  common_cut e = fields_short at (w ∷ 4 ∷ 1 ∷ 4 ∷ []) with_fields e

  -- what the code makes of it
  pub taken_whole : {n : ℕ} → taken_at bs end place (w + 9) ≡ Ok n → {h : CommonHead} → h ≡ head_from n → Ok h ≡ common_by (end_from (common w) bs end place)
  unfolding common_by head_for common_of
  taken_whole e is = rw (common_there e) (ap Ok is)

  pub taken_short : {s : Bits.Short} → taken_at bs end place (w + 9) ≡ Err s → {lost : Bits.Short} → lost.missing ≡ short_by (w ∷ 4 ∷ 1 ∷ 4 ∷ []) (end - place)
      → Err lost ≡ common_by (end_from (common w) bs end place)
  unfolding common_by
  taken_short e is = rw (common_cut e) (ap (λ (m : ℕ). Err (record { missing = m })) is)

  -- and back: a head that is there
  pub record Read (h : CommonHead) : Type 0 where
    pub ran : end_from (common w) bs end place ≡ well (common_of h) (place + (w + 9))
    pub small : Small h
    pub after : Within bs end (place + (w + 9))

  pub common_whole : w ≤ 20 → {h : CommonHead} → common_by (end_from (common w) bs end place) ≡ Ok h → Read h
  unfolding common_by head_for common_of
  common_whole few {h} e = go (taken_at bs end place (w + 9)) refl
    where
      go : (t : Result ℕ Bits.Short) → taken_at bs end place (w + 9) ≡ t → Read h
      go (Ok n) took =
          let f = rw (common_there took) at e in
          let same : head_from n ≡ h = cc in
          record { ran = common_there took ∙ ap (λ (g : CommonHead). well (common_of g) (place + (w + 9))) same; small = rw same at (small_head w n few (fits at (w + 9) took)); after = after_field at (w + 9) took }
      go (Err s) took =
          let f = rw (common_cut took) at e in
          absurd (let z : ◌≡◌ {A = ℕ} 0 1 = cc in omega arith)

  -- or is not
  pub common_short : {lost : Bits.Short} → common_by (end_from (common w) bs end place) ≡ Err lost → end_from (common w) bs end place ≡ badly Short lost.missing
  unfolding common_by
  common_short {lost} e = go (taken_at bs end place (w + 9)) refl
    where
      go : (t : Result ℕ Bits.Short) → taken_at bs end place (w + 9) ≡ t → end_from (common w) bs end place ≡ badly Short lost.missing
      go (Ok n) took =
          let f = rw (common_there took) at e in
          absurd (let z : ◌≡◌ {A = ℕ} 0 1 = cc in omega arith)
      go (Err s) took =
          let f = rw (common_cut took) at e in
          common_cut took ∙ ap (badly Short) (cc)
