-- `host_write::hundurzek_write` meets its contract. Assumes nothing.
use Rattle.bits.proofs.Words.{◌≡◌, sym, ap, ap₂, ◌∙◌, true, ◌≤◌, rules, leb, length}
use mathlib.Core.Bool.{and-eq-true_iff}
use borrow.Author.Tests.{leb-true}
use Rattle.format.specs.declared.Head.{Head}
use Rattle.format.specs.Answers as Answers
use Rattle.format.specs.Masks.{Lent}
use Rattle.format.specs.Writing.{Written, writing, done_writing, bytes_after}
use Rattle.holding.specs.declared.Holding.{Holding}
use Rattle.holding.specs.Pictures.{lent_by}
use Rattle.passing.specs.Passing.{size, passes, holding_in}
use Rattle.writer.specs.Stages.{answered}
use Rattle.host_write.specs.Writes.{head_in, without_holding, written_handed}
use Rattle.host_write.proofs.HandedWrites.{done_at, refused_at, not_held, no_writing, nothing_set}
use Rattle.host_write.proofs.hundurzek_write.Statement.{statement}
use Rattle.host_write.proofs.hundurzek_write.Tie as tie

-- what writing comes to by what the lent bytes and numbers say
abbrev meant : tie.Start → Written
meant x =
    writing (lent_by (holding_in x.args.holding.now)) (head_in x.args.head.now) x.args.rows.now x.args.count x.args.bytes.now x.args.start

-- ---- bytes that do not pass

module _ (c : tie.After-no_holding) where
  abbrev stray : tie.Start
  stray = c.before.before.before.before.before

  none : without_holding stray.args.bytes.now stray.args.start ≡ meant stray
  none =
      let test = c in
      no_writing (head_in stray.args.head.now) stray.args.rows.now stray.args.count stray.args.bytes.now stray.args.start
      ∙ ap (λ (l : Lent). writing l (head_in stray.args.head.now) stray.args.rows.now stray.args.count stray.args.bytes.now stray.args.start)
      (sym (not_held stray.args.holding.now (sym test.passes.ensures ∙ test.if-not-passes.true)))

returns-then-not-passes : tie.Need-returns-then-not-passes
returns-then-not-passes c =
    let x = (stray c).args in (
      c.no_holding.ensures ∙ ap (λ (w : Written). written_handed x.start (done_writing x.start w)) (none c),
      nothing_set x.bytes.now x.start ∙ ap (λ (w : Written). bytes_after w x.bytes.now x.start) (none c),
    )

-- ---- and those that do

passed : (c : tie.Else-not-passes) → passes c.args.holding.now ≡ true
passed c = sym c.passes.ensures ∙ c.if-not-passes.false

said-held-requires : tie.Need-said-held-requires
unfolding passes
said-held-requires c κs =
    let hb = c.args.holding.now in
    leb-true size (length hb) ((and-eq-true_iff (leb size (length hb)) _).0 (passed c)).0

module _ (c : tie.After-write-end) where
  abbrev tested : tie.Else-not-passes
  tested = c.before.before.before.before

  abbrev x : tie.Start
  x = tested.before.before.before.before

  held : c.said-held.result ≡ holding_in x.args.holding.now
  unfolding holding_in
  held = rw (passed tested) c.said-held.ensures

  same : writing (lent_by c.said-held.result) c.head_in-asked.result x.args.rows.now x.args.count x.args.bytes.now x.args.start ≡ meant x
  same =
      ap₂ (λ (k : Holding) (h : Head). writing (lent_by k) h x.args.rows.now x.args.count x.args.bytes.now x.args.start) held c.head_in-asked.ensures

  told : c.write-end.result ≡ answered x.args.start (meant x)
  told = c.write-end.ensures.0 ∙ ap (answered x.args.start) same

  left : c.write-end.new.bytes ≡ bytes_after (meant x) x.args.bytes.now x.args.start
  left = c.write-end.ensures.1 ∙ ap (λ (d : Written). bytes_after d x.args.bytes.now x.args.start) same

done : (c : tie.In-Done) → let s = x c.before.before.before in (s.args.start ≤ c.in-Done.place) × (Answers.done c.in-Done.place ≡ done_writing s.args.start (meant s))
done c =
    let w = c.before.before.before in
    done_at (x w).args.start c.in-Done.place (meant (x w)) (sym c.in-Done.is ∙ told w)

returns-in-Done : tie.Need-returns-in-Done
returns-in-Done c =
    let e = c.before in
    let w = e.before.before.before in
    (c.written.ensures ∙ ap (written_handed (x w).args.start) (done e).1, left w)

returns-in-Refused : tie.Need-returns-in-Refused
returns-in-Refused c =
    let e = c.before in
    let w = e.before.before.before in
    (c.refused.ensures ∙ ap (written_handed (x w).args.start) (refused_at (x w).args.start (meant (x w)) (sym e.in-Refused.is ∙ told w)), left w)

pub hundurzek_write_spec : {M : Type 1} → statement M
hundurzek_write_spec =
    tie.close
    (tie.spec (λ c κs. search rules) (λ c κs. search rules) (λ c. search rules) returns-then-not-passes said-held-requires (λ c κs. search rules) (λ c κs. search rules) (λ c. search rules)
    (λ c κs. (done c).0) (λ c. search rules) (λ c κs. search rules) (λ c. search rules) returns-in-Done (λ c. search rules) returns-in-Refused)
