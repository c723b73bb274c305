-- `host::hundurzek_walk` meets its contract. Assumes nothing.
use mathlib.Core.Path.{◌≡◌, sym, ap, ◌∙◌}
use mathlib.Core.Bool.{true}
use mathlib.Core.List.{List}
use Prim.Native.Nat.{ℕ}
use native.Mathlib.Omega.{arith}
use borrow.Author.Rules.{rules}
use Rattle.bits.proofs.Windows.{Bytes}
use Rattle.format.specs.Walking.{Walk}
use Rattle.holding.specs.declared.Holding.{Holding}
use Rattle.holding.specs.Outlines.{whole_of}
use Rattle.host.specs.Handing.{host_walk, left_bytes}
use Rattle.host.proofs.Opened.{opened, unsound, refused_so}
use Rattle.host.proofs.Walks.{leave_known, left, stray_bytes, walked_to_lem}
use Rattle.passing.specs.Passing.{passes, holding_in}
use Rattle.passing.proofs.Returns.{passed}
use Rattle.walk.specs.declared.Halt.{Halt}
use Rattle.walk.specs.Standing.{halt_of}
use Rattle.walk.specs.Walks.{walk_at, walked_of}
use Rattle.walk.proofs.Begins.{refused_walked}
use Rattle.host.proofs.hundurzek_walk.Statement.{statement}
use Rattle.host.proofs.hundurzek_walk.Tie as tie

-- bytes that say no holding
returns-then-not-passes : tie.Need-returns-then-not-passes
unfolding host_walk
returns-then-not-passes c =
    let u = c.before in
    let t = u.before in
    let p = t in
    let x = p.args in
    let hb = x.holding.now in
    let fails = sym p.passes.ensures ∙ t.if-not-passes.true in
    let why = refused_so hb x.bytes.now x.end 0 x.rows.now fails u.unheld-refusal.ensures in
    let it = refused_walked (holding_in hb) x.bytes.now x.end x.rows.now _ why in (
      c.halted.ensures ∙ walked_to_lem hb x.bytes.now x.end x.rows.now _ it.0,
      (stray_bytes hb x.bytes.now x.end x.rows.now (unsound hb fails), it.1),
    )

-- those that pass
module _ (c : tie.Else-not-passes) where
  abbrev s : tie.Start
  s = c.before.before.before.before

  abbrev lent : List ℕ
  lent = s.args.holding.now

  fine : passes lent ≡ true
  fine = sym c.passes.ensures ∙ c.if-not-passes.false

  small : Bytes lent
  small k = omega (arith, c.slice_known-1.given k)

-- opened in parts
module _ (c : tie.After-outline-outline) where
  abbrev e : tie.Else-not-passes
  e = c.before.before.before

  said : whole_of c.outline-outline.result c.satellites-satellites.result c.strips-strips.result ≡ holding_in (lent e)
  said = opened (lent e) (fine e) c.outline-outline.ensures c.satellites-satellites.ensures c.strips-strips.ensures

-- what the walk answered under them
module _ (c : tie.After-walk_under-stopped) where
  abbrev o : tie.After-outline-outline
  o = c.before.before.before.before.before.before.before

  abbrev w : Walk
  w = let x = (s (e o)).args in host_walk (lent (e o)) x.bytes.now x.end x.rows.now

  abbrev halt : Halt
  halt = halt_of c.walk_under-stopped.result c.walk_under-stopped.new.satellites c.walk_under-stopped.new.strips

  told : (halt ≡ walked_of (holding_in (lent (e o))) w) × (c.walk_under-stopped.new.rows ≡ w.rows)
  unfolding host_walk
  told =
      let x = (s (e o)).args in (
        c.walk_under-stopped.ensures.0 ∙ ap (λ (h : Holding). walked_of h (walk_at h x.bytes.now x.end x.rows.now)) (said o),
        c.walk_under-stopped.ensures.1 ∙ ap (λ (h : Holding). (walk_at h x.bytes.now x.end x.rows.now).rows) (said o),
      )

leave-requires : tie.Need-leave-requires
unfolding host_walk
leave-requires c κs changed =
    let g = c.before.before.before in
    let v = g.before.before.before.before in
    let x = (s (e (o v))).args in
    leave_known (lent (e (o v))) x.bytes.now x.end x.rows.now (halt v) (told v).0 (sym g.changes-changed.ensures ∙ changed)

returns : tie.Need-returns
unfolding host_walk
returns c =
    let y = c.before.before.before in
    let g = y.before.before.before.before in
    let v = g.before.before.before.before in
    let l = lent (e (o v)) in
    let x = (s (e (o v))).args in (
      c.halted-2.ensures ∙ walked_to_lem l x.bytes.now x.end x.rows.now (halt v) (told v).0,
      (
        y.leave.ensures ∙ (λ i. left_bytes (g.changes-changed.ensures i) (halt v).holding l) ∙ left l x.bytes.now x.end x.rows.now (halt v) (told v).0 (small (e (o v))),
        (told v).1,
      ),
    )

pub hundurzek_walk_spec : {M : Type 1} → statement M
hundurzek_walk_spec =
    tie.close
    (tie.spec (λ c κs. search rules) (λ c κs. search rules) (λ c κs. search rules) (λ c. search rules) returns-then-not-passes
    (λ c κs. (passed _ (fine c)).long) (λ c κs. (passed _ (fine c.before)).long) (λ c κs. (passed _ (fine c.before.before)).long)
    (λ c κs. search rules) (λ c κs. search rules) (λ c κs. search rules) leave-requires (λ c κs. search rules) (λ c. search rules) (λ c. search rules) returns)
