-- What heads plan. Assumes nothing.
use Rattle.bits.proofs.Words.{◌≡◌, refl, sym, true, false, zero, suc, arith, ℤ, pos}
use mathlib.Core.Bool.{false≢true}
use borrow.Author.Tests.{eqb-true}
use lib.IntN.{negsuc}
use Rattle.format.specs.Rows.{absent}
use Rattle.format.specs.Same.{sameℤ}
use Rattle.fitting.specs.FitHeads.{number_fits, network_fits}

-- ---- a network

pub no_network : (z : ℤ) → sameℤ z absent ≡ true → network_fits z ≡ true
unfolding network_fits sameℤ
no_network (pos n) none = absurd (false≢true none)
no_network (negsuc n) none = none

pub network_zero : (z : ℤ) → sameℤ z (pos 0) ≡ true → network_fits z ≡ false
unfolding network_fits sameℤ
network_zero (pos zero) same = refl
network_zero (pos (suc n)) same = let e = eqb-true (suc n) 0 same in absurd (omega arith)
network_zero (negsuc n) same = absurd (false≢true same)

pub some_network : (z : ℤ) → sameℤ z absent ≡ false → sameℤ z (pos 0) ≡ false → network_fits z ≡ number_fits 5 z
unfolding network_fits number_fits sameℤ
some_network (pos zero) some other = absurd (false≢true (sym other))
some_network (pos (suc n)) some other = refl
some_network (negsuc n) some other = some
