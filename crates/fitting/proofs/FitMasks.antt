-- The common head, and sub type 1: a head that fits is what some bits are read to, and what is read fits.
-- Assumes nothing.
use mathlib.Core.Path.{◌≡◌, refl, sym, ap, subst, ◌∙◌}
use mathlib.Core.Bool.{Bool, true, false≢true}
use mathlib.Core.List.{List, [], ◌∷◌, ◌++◌}
use Prim.Native.Nat.{ℕ, zero, suc, ◌+◌, ◌^◌, ◌<◌}
use native.Mathlib.Omega.{arith}
use borrow.Author.Tests.{lt-ltb}
use lib.IntN.{ℤ, pos}
use lib.ListN.{length, length-append}
use Rattle.format.proofs.MakesBack.{made}
use Rattle.format.proofs.Sames.{and_true, true_and, sameℤ_sound, sameℤ_refl}
use Rattle.format.proofs.Steps.{Gives, gives_done, gives_numbered, gives_bind, gives_so, gives_itself, Reads}
use Rattle.format.specs.declared.Head.{Head}
use Rattle.format.specs.Good.{good}
use Rattle.format.specs.Masks.{System, Mask, mask}
use Rattle.format.specs.Messages.{Common, common, head_of, system, systems, Adopted, mask_message, mask_type}
use Rattle.format.specs.Programs.{Program}
use Rattle.format.specs.Rows.{absent}
use Rattle.format.specs.Same.{sameℤ}
use Rattle.format.specs.Spelling.{put_mask}
use Rattle.fitting.specs.FitHeads.{number_fits, common_fits, rowless, mask_fits}
use Rattle.fitting.proofs.FitHeads.{number_fits_lem}

-- ---- the common head

-- a head of sub type n whose front fits is that front's
pub record Fronted (w n : ℕ) (h : Head) : Type 0 where
  pub front : Common
  pub epoch : front.epoch < 2 ^ w
  pub interval : front.interval < 2 ^ 4
  pub indicator : front.indicator < 2 ^ 1
  pub issue : front.iod < 2 ^ 4
  pub same : h ≡ head_of n front h.a h.b h.c

pub common_fronted : (w n : ℕ) (h : Head) → h.subtype ≡ pos n → common_fits w h ≡ true → Fronted w n h
unfolding common_fits head_of
common_fronted w n h type fits =
    let first = and_true (number_fits w h.epoch) _ fits in
    let second = and_true (number_fits 4 h.interval) _ first.1 in
    let third = and_true (number_fits 1 h.indicator) _ second.1 in
    let e = number_fits_lem w h.epoch first.0 in
    let i = number_fits_lem 4 h.interval second.0 in
    let j = number_fits_lem 1 h.indicator third.0 in
    let k = number_fits_lem 4 h.iod third.1 in
    record {
      front = record { epoch = e.value; interval = i.value; indicator = j.value; iod = k.value };
      epoch = e.small;
      interval = i.small;
      indicator = j.small;
      issue = k.small;
      same = λ t. record {
        subtype = type t;
        epoch = e.same t;
        interval = i.same t;
        indicator = j.same t;
        iod = k.same t;
        a = h.a;
        b = h.b;
        c = h.c;
      };
    }

-- what is read as a front fits
pub common_fit : (w : ℕ) → Gives (common w) (λ k bits. (n : ℕ) (a b c : ℤ) → common_fits w (head_of n k a b c) ≡ true)
unfolding common common_fits number_fits head_of
common_fit w =
    gives_numbered _ _ λ epoch wide.
    gives_numbered _ _ λ interval small.
    gives_numbered _ _ λ indicator bit.
    gives_numbered _ _ λ iod low.
    gives_done λ n a b c.
    true_and (lt-ltb epoch (2 ^ w) wide) (true_and (lt-ltb interval (2 ^ 4) small) (true_and (lt-ltb indicator (2 ^ 1) bit) (lt-ltb iod (2 ^ 4) low)))

-- ---- 1

-- some bits are read to a mask with this head, and there are no rows
pub record Made (p : Program Adopted) (m : Mask) (h : Head) (rows : List (List ℤ)) : Type 0 where
  pub bits : List Bool
  pub makes : Reads p bits (record { head = h; made = m })
  pub empty : rows ≡ []

no_rows : (rows : List (List ℤ)) → rowless rows ≡ true → rows ≡ []
unfolding rowless
no_rows [] fits = refl
no_rows (r ∷ rs) fits = absurd (false≢true fits)

pub mask_made : (m : Mask) → good (mask m) ≡ true → (h : Head) (rows : List (List ℤ)) (f : Fronted 20 mask_type h) → f.front.iod ≡ m.iod
    → mask_fits m h rows ≡ true → Made mask_message m h rows
unfolding mask_fits
mask_made m fine h rows f issue fits =
    let k : Common = f.front in
    let count : ℤ = pos (length m.systems) in
    let a = and_true (sameℤ h.a count) _ fits in
    let b = and_true (sameℤ h.b absent) _ a.1 in
    let c = and_true (sameℤ h.c absent) _ b.1 in
    let head : Head = head_of mask_type k count absent absent in
    let whole : head ≡ h =
    sym (f.same ∙ (λ i. head_of mask_type k (sameℤ_sound h.a count a.0 i) (sameℤ_sound h.b absent b.0 i) (sameℤ_sound h.c absent c.0 i))) in
    let bits : List Bool = put_mask m head in
    record {
      bits = bits;
      makes =
          subst (λ (g : Head). Reads mask_message bits (record { head = g; made = m })) whole
          (record { reads = made m k fine issue f.epoch f.interval f.indicator });
      empty = no_rows rows c.1;
    }

-- as many systems as the head says
systems_count : (n : ℕ) (before : List System) → Gives (systems n before) (λ all b. length all ≡ length before + n)
unfolding systems
systems_count zero before = gives_done (omega arith)
systems_count (suc n) before =
    gives_bind (gives_itself (system before)) λ s m _.
    gives_so (systems_count n (before ++ (s ∷ []))) λ all b many.
    many ∙ rw length-append (omega arith)

pub mask_fits_lem : Gives mask_message (λ d b. (d.head.subtype ≡ pos mask_type) × (common_fits 20 d.head ≡ true)
    × (d.head.iod ≡ pos d.made.iod) × (mask_fits d.made d.head [] ≡ true))
unfolding mask_message mask_fits rowless head_of
mask_fits_lem =
    gives_bind (common_fit 20) λ k front fit.
    gives_numbered _ _ λ count _.
    gives_bind (systems_count count []) λ all b many.
    let missing = sameℤ_refl absent in
    let counted : sameℤ (pos count) (pos (length all)) ≡ true = ap (λ (n : ℕ). sameℤ (pos count) (pos n)) (many ∙ omega arith) ∙ sameℤ_refl (pos count) in
    gives_done (refl, fit mask_type (pos count) absent absent, refl, true_and counted (true_and missing (true_and missing refl)))
