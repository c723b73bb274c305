-- `body::fill` meets its contract: with windows behind the body at once, else by its keys and then its values. Assumes nothing.
use Rattle.bits.proofs.Words.{◌≡◌, refl, sym, ap, ◌∙◌, subst, Bool, true, cond, List, ℕ, ◌+◌, ◌/◌, arith, rules, ltb, length, ℤ}
use borrow.Author.Tests.{ltb-false, lt-ltb, le-ltb}
use lib.ListN.{replicate}
use Rattle.format.specs.Reading.{over}
use Rattle.table.specs.Bodies.{lines_in}
use Rattle.body.specs.declared.Placed.{Placed}
use Rattle.body.specs.Asking.{Writes}
use Rattle.body.specs.Lent.{view_by}
use Rattle.body.specs.Near.{named}
use Rattle.body.specs.Written.{numbers_at}
use Rattle.body.proofs.Bodies.{few_in}
use Rattle.body.proofs.Valued.{first_writes, filled_in}
use Rattle.body.proofs.fill.Statement.{statement}
use Rattle.body.proofs.fill.Tie as tie

module _ (c : tie.After-string) where
  abbrev s : tie.Start
  s = c.before.before.before.before.before.before.before.before

  abbrev near : Bool
  near = ltb (length s.args.bytes.now) ((s.args.placed.at + s.args.placed.bits + 127) / 8)

  abbrev zeros : List ℕ
  zeros = replicate 35 0

  first : c.body-first.result ≡ cond near (named s.args.placed) s.args.placed
  first = c.body-first.ensures

  string : c.string.result.now ≡ cond near zeros s.args.bytes.now
  string = c.string.ensures

  -- what is written
  written : (b : Bool) → near ≡ b → {new : List ℤ}
      → new ≡ over (numbers_at (lines_in (view_by s.args.ids.now s.args.masks.now s.args.strips.now) c.body-first.result.body) c.string.result.now c.body-first.result.at) s.args.rows.now
      → let p = cond b (named s.args.placed) s.args.placed in new ≡ over (numbers_at (lines_in (view_by s.args.ids.now s.args.masks.now s.args.strips.now) p.body) (cond b zeros s.args.bytes.now) p.at) s.args.rows.now
  written b e new =
      let p : c.body-first.result ≡ cond b (named s.args.placed) s.args.placed = first ∙ ap (λ (x : Bool). cond x (named s.args.placed) s.args.placed) e in
      let z : c.string.result.now ≡ cond b zeros s.args.bytes.now = string ∙ ap (λ (x : Bool). cond x zeros s.args.bytes.now) e in
      new ∙ (λ i. over (numbers_at (lines_in (view_by s.args.ids.now s.args.masks.now s.args.strips.now) (p i).body) (z i) (p i).at) s.args.rows.now)

fill-requires : tie.Need-fill-requires
fill-requires c κs =
    let g = c.before in
    let x = (s g).args in
    let past : ℕ = (x.placed.at + x.placed.bits + 127) / 8 in
    subst (λ (l : List ℕ). Writes x.ids.now x.masks.now x.strips.now c.body-first.result l x.rows.now) (sym (string g))
    (subst (λ (p : Placed). Writes x.ids.now x.masks.now x.strips.now p (cond (near g) (zeros g) x.bytes.now) x.rows.now) (sym (first g))
    (first_writes (s g).requires (near g) x.bytes.now (zeros g) refl (λ e. omega (arith, ltb-false (length x.bytes.now) past e))))

values-requires : tie.Need-values-requires
values-requires c κs =
    let w = c.before.before.before in
    let f = (s w.before.before).requires in
    (omega (arith, f.near), omega (arith, f.count, (few_in f.lent _ f.fits).rows), omega (arith, f.count, f.room, w.fill.auto.rows))

returns-then-near : tie.Need-returns-then-near
returns-then-near c =
    let v = c.before in
    let t = v.before.before in
    let w = t.before.before in
    let g = w.before.before in
    v.values.ensures ∙ filled_in (s g).requires (s g).args.bytes.now (zeros g) (written g true (lt-ltb _ _ t.if-near.true) w.fill.ensures)

returns-else-near : tie.Need-returns-else-near
returns-else-near c =
    let w = c.before.before in
    written w.before.before _ (le-ltb _ _ c.if-near.false) w.fill.ensures

pub fill_spec : {M : Type 1} → statement M
fill_spec =
    tie.close
    (tie.spec (λ c. search rules) (λ c. search rules) (λ c κs. search rules) (λ c. search rules) (λ c κs. search rules) fill-requires values-requires (λ c. search rules) returns-then-near (λ c. search rules) returns-else-near)
