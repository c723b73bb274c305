-- What a message's first 16 bits decide, and what they leave to the rest: so the program of a mask message and of sub type 10 does not depend on what is held,
-- and the reading of a mask message does for 13 alone (document 02, Ask 2).
-- Assumes nothing.
use mathlib.Core.Path.{◌≡◌, refl, sym, ap, ◌∙◌}
use mathlib.Core.Bool.{Bool, true, false, cond}
use mathlib.Core.List.{List}
use Prim.Native.Nat.{ℕ, zero, suc, ◌-◌}
use lib.Dec.{eqb}
use lib.ListN.{length, take, drop}
use Rattle.bits.specs.BitLists.{number}
use Rattle.format.specs.declared.Refusal.{Refusal}
use Rattle.format.specs.declared.Refusal.TheVariants.{Number}
use Rattle.format.specs.Assigned.{blank}
use Rattle.format.specs.Masks.{Held, nothing, lent}
use Rattle.format.specs.Messages.{Content, bodied, packet}
use Rattle.format.specs.Programs.{Program, done, refuse, field, ◌>>=◌, ◌>>◌, numbered, require, Ended, well, badly, later, unless_short, run}
use Rattle.format.specs.Reading.{Outcome, accepted, idle, refused, settled, ended_at, read_from, sub_type_in}
use Rattle.format.specs.Steady.{steady}
use Rattle.format.specs.Table.{Kind, Message, table, kinds, keeping, by_kind, opening, message_by, message}

-- 3 for the number, 4, 3 for the sub type, and then the rest's end
unfoldable pub opened : {A : Type 0} → List Bool → Ended A → Ended A
opened l e =
    unless_short (12 - length l) (later 12 (cond (eqb (number (take 12 l)) 4073) (unless_short (4 - length (drop 12 l)) (later 4 e)) (badly Number 0)))

run_require : {A B : Type 0} (test : Bool) (r : Refusal) (p : Program A) (k : A → Program B) (l : List Bool)
    → run (require test r >> p >>= k) l ≡ cond test (run (p >>= k) l) (badly r 0)
unfolding require ◌>>◌ ◌>>=◌ run
run_require true r p k l = refl
run_require false r p k l = refl

pub run_opened : (t : ℕ → Kind) (held : Held) (l : List Bool) → run (message_by t held) l ≡ opened l (run (by_kind (t (sub_type_in l)) held) (drop 4 (drop 12 l)))
unfolding message_by opening numbered ◌>>=◌ run opened
run_opened t held l =
    ap (λ e. unless_short (12 - length l) (later 12 e))
    (run_require (eqb (number (take 12 l)) 4073) Number (numbered 4 >>= done) (λ s. by_kind (t s) held) (drop 12 l))

-- ---- a mask message: whatever is held, the same end
pub mask_free : (g h : Held) (l : List Bool) → sub_type_in l ≡ 1 → run (message g) l ≡ run (message h) l
unfolding table kinds by_kind
mask_free g h l one =
    run_opened table g l ∙ ap (λ (s : ℕ). opened l (run (by_kind (table s) g) (drop 4 (drop 12 l)))) one
    ∙ sym (run_opened table h l ∙ ap (λ (s : ℕ). opened l (run (by_kind (table s) h) (drop 4 (drop 12 l)))) one)

-- ---- so its reading is that where nothing is held, but for 13

unfoldable pub under_held : Held → Outcome → Outcome
under_held held (accepted m next) = settled held m next
under_held held (idle left) = idle (lent held)
under_held held (refused r missing left) = refused r missing (lent held)

pub mask_reading : (held : Held) (place : ℕ) (l : List Bool) → sub_type_in l ≡ 1 → read_from table held place l ≡ under_held held (read_from table nothing place l)
unfolding read_from ended_at under_held steady
mask_reading held place l one =
    ap (λ (e : Ended Message). cond (blank l) (idle (lent held)) (ended_at held place e)) (mask_free held nothing l one) ∙ go (blank l) (run (message nothing) l)
  where
    go : (b : Bool) (e : Ended Message)
        → cond b (idle (lent held)) (ended_at held place e) ≡ under_held held (cond b (idle (lent nothing)) (ended_at nothing place e))
    go true e = refl
    go false (well m taken) = refl
    go false (badly r missing) = refl

-- ---- sub type 10: the same content

unfoldable pub content_of : Ended Message → Ended Content
content_of (well m taken) = well m.content taken
content_of (badly r missing) = badly r missing

content_later : (w : ℕ) (e : Ended Message) → content_of (later w e) ≡ later w (content_of e)
unfolding content_of later
content_later w (well m taken) = refl
content_later w (badly r missing) = refl

content_short : (missing : ℕ) (e : Ended Message) → content_of (unless_short missing e) ≡ unless_short missing (content_of e)
unfolding content_of unless_short
content_short zero e = refl
content_short (suc k) e = refl

content_cond : (test : Bool) (e f : Ended Message) → content_of (cond test e f) ≡ cond test (content_of e) (content_of f)
content_cond true e f = refl
content_cond false e f = refl

content_opened : (l : List Bool) (e : Ended Message) → content_of (opened l e) ≡ opened l (content_of e)
unfolding opened content_of
content_opened l e = simp (content_short, content_later, content_cond)

-- a program that leaves the holding as it is
content_held : (p : Program Content) (held : Held) (l : List Bool) → content_of (run (p >>= (λ c. done (record { content = c; after = held }))) l) ≡ run p l
unfolding content_of run ◌>>=◌
content_held (done c) held l = refl
content_held (refuse r) held l = refl
content_held (field w next) held l = simp (content_short, content_later, content_held (next (take w l)) held (drop w l))

packet_alone : (held : Held) (l : List Bool) → sub_type_in l ≡ 10 → content_of (run (message held) l) ≡ opened l (run (bodied packet) (drop 4 (drop 12 l)))
unfolding table kinds by_kind keeping
packet_alone held l ten =
    ap content_of (run_opened table held l ∙ ap (λ (s : ℕ). opened l (run (by_kind (table s) held) (drop 4 (drop 12 l)))) ten)
    ∙ content_opened l (run (bodied packet >>= (λ c. done (record { content = c; after = held }))) (drop 4 (drop 12 l)))
    ∙ ap (opened l) (content_held (bodied packet) held (drop 4 (drop 12 l)))

pub packet_free : (g h : Held) (l : List Bool) → sub_type_in l ≡ 10 → content_of (run (message g) l) ≡ content_of (run (message h) l)
packet_free g h l ten = packet_alone g l ten ∙ sym (packet_alone h l ten)
