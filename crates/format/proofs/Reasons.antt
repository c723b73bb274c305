-- Why a program ends badly: a message is short for want of bits alone, always by one or more (document 02, Ask 7), and is refused by a test of its own, 4 to 11,
-- with none missing.
-- Assumes nothing.
use mathlib.Core.Path.{◌≡◌, refl, sym, subst, ◌∙◌}
use mathlib.Core.Bool.{Bool, true, false}
use mathlib.Core.List.{List}
use mathlib.Core.Logic.{◌⊎◌, inl, inr}
use Prim.Native.Nat.{ℕ, zero, suc, ◌-◌, ◌≤◌, ◌<◌}
use native.Mathlib.Decide.{dec_lt}
use native.Mathlib.Omega.{arith}
use lib.ListN.{length, take, drop}
use Rattle.format.specs.declared.Refusal.{Refusal}
use Rattle.format.specs.declared.Refusal.TheVariants.{Short, SubType, NoMask}
use Rattle.format.specs.Answers.{number_of}
use Rattle.format.specs.Masks as Masks
use Rattle.format.specs.Masks.{Held, nothing, mask, Sky, Satellite}
use Rattle.format.specs.Messages.{BothMasks, Common, Heading, body, bodied, common, Keys, selection, flagged, packet, rows_alone, system_id, system_signals, system_masks, few_cells, flagged_cells, system_cells, system, systems, mask_message}
use Rattle.format.specs.Programs.{Program, done, refuse, field, ◌>>=◌, ◌>>◌, taking, numbered, require, Ended, well, badly, later, run}
use Rattle.format.specs.Rows.{Column, Line}
use Rattle.format.specs.Table.{Kind, other, free, masked, adopts, alone, with_flags, kinds, table, gate, under_mask, keeping, by_kind, opening, message, message_by}
use Rattle.format.proofs.Runs.{run_field, run_short, later_badly, not_well}
use Rattle.format.proofs.Tables.{Each, end, then, in_table}

-- another reason than missing bits: a test of a field, 4 to 11
abbrev pub Other : Refusal → Type 0
Other r = (3 < number_of r) × (number_of r < 12)

-- all of a program's own tests have one
pub data Reasoned {A : Type 0} : Program A → Type 0 where
  made : {a : A} → Reasoned (done a)
  refused : {r : Refusal} → Other r → Reasoned (refuse r)
  asks : {w : ℕ} {next : List Bool → Program A} → ((b : List Bool) → Reasoned (next b)) → Reasoned (field w next)

-- ---- one after the other

bind : {A B : Type 0} {p : Program A} (k : A → Program B) → Reasoned p → ((a : A) → Reasoned (k a)) → Reasoned (p >>= k)
unfolding ◌>>=◌
bind k made next = next _
bind k (refused reason) next = refused reason
bind k (asks first) next = asks λ b. bind k (first b) next

module _ {B : Type 0} where
  bits : (w : ℕ) (k : List Bool → Program B) → ((b : List Bool) → Reasoned (k b)) → Reasoned (taking w >>= k)
  unfolding taking ◌>>=◌
  bits w k next = asks next

  number : (w : ℕ) (k : ℕ → Program B) → ((n : ℕ) → Reasoned (k n)) → Reasoned (numbered w >>= k)
  unfolding numbered ◌>>=◌
  number w k next = asks λ b. next _

  test : (t : Bool) (r : Refusal) (p : Program B) → Other r → Reasoned p → Reasoned (require t r >> p)
  unfolding require ◌>>◌ ◌>>=◌
  test true r p reason next = next
  test false r p reason next = refused reason

-- ---- the messages

common_reasoned : (w : ℕ) → Reasoned (common w)
unfolding common
common_reasoned w = number _ _ λ _. number _ _ λ _. number _ _ λ _. number _ _ λ _. made

bodied_reasoned : {p : Program Heading} → Reasoned p → Reasoned (bodied p)
unfolding bodied body
bodied_reasoned it = bind _ it λ d. bind _ (asks λ b. made) λ rows. made

selection_reasoned : (keys : Keys) (sky : Sky) (flag : ℕ) → Reasoned (selection keys sky flag)
unfolding selection number_of
selection_reasoned keys sky zero = made
selection_reasoned keys sky (suc one) = number _ _ λ _. test _ _ _ (omega arith, omega arith) (bits _ _ λ _. test _ _ _ (omega arith, omega arith) made)

id_reasoned : (ids : List ℕ) → Reasoned (system_id ids)
unfolding system_id number_of
id_reasoned ids = number _ _ λ _. test _ _ _ (omega arith, omega arith) made

masks_reasoned : (n id : ℕ) → Reasoned (system_masks n id)
unfolding system_masks system_signals number_of
masks_reasoned n id =
    bits _ _ λ sats. test _ _ _ (omega arith, omega arith) (test _ _ _ (omega arith, omega arith) (bits _ _ λ signals. test _ _ _ (omega arith, omega arith) made))

cells_reasoned : (before : List Masks.System) (id : ℕ) (k : BothMasks) → Reasoned (system_cells before id k)
unfolding system_cells flagged_cells few_cells number_of
cells_reasoned before id k = number _ _ λ flag. bits _ _ λ b. test _ _ _ (omega arith, omega arith) made

systems_reasoned : (n : ℕ) (before : List Masks.System) → Reasoned (systems n before)
unfolding systems system
systems_reasoned zero before = made
systems_reasoned (suc n) before =
    bind _ (bind _ (id_reasoned _) λ id. bind _ (masks_reasoned _ id) λ k. cells_reasoned before id k) λ s. systems_reasoned n _

-- ---- by the table

unfoldable KindReasoned : ℕ → Kind → Type 0
KindReasoned n other = Unit {0}
KindReasoned n (free k) = Reasoned k.program
KindReasoned n (masked k) = (sky : Sky) (h : Common) → Reasoned (k.program sky h)
KindReasoned n (adopts k) = Reasoned k.program

rows_reasoned : (subType : ℕ) (over : Sky → List Line) (sky : Sky) (h : Common) → Reasoned (rows_alone subType over sky h)
unfolding rows_alone
rows_reasoned subType over sky h = made

flagged_reasoned : (subType : ℕ) (keys : Keys) (shape : Bool → Bool → ℕ → List Column) (sky : Sky) (h : Common) → Reasoned (flagged subType keys shape sky h)
unfolding flagged
flagged_reasoned subType keys shape sky h = number _ _ λ _. number _ _ λ _. number _ _ λ flag. bind _ (selection_reasoned keys sky flag) λ s. made

packet_reasoned : Reasoned packet
unfolding packet
packet_reasoned = number _ _ λ _. number _ _ λ _. number _ _ λ _. made

mask_reasoned : Reasoned mask_message
unfolding mask_message
mask_reasoned = bind _ (common_reasoned 20) λ h. number _ _ λ count. bind _ (systems_reasoned count _) λ all. made

kinds_reasoned : Each KindReasoned 0 kinds
unfolding kinds alone with_flags KindReasoned
kinds_reasoned =
    then tt
    (then mask_reasoned
    (then (rows_reasoned _ _) (then (rows_reasoned _ _) (then (rows_reasoned _ _) (then (rows_reasoned _ _)
    (then (flagged_reasoned _ _ _) (then (rows_reasoned _ _)
    (then tt (then tt
    (then packet_reasoned (then (flagged_reasoned _ _ _) end)))))))))))

gate_reasoned : (held : Held) (iod : ℕ) → Reasoned (gate held iod)
unfolding gate number_of
gate_reasoned nothing iod = refused {r = NoMask} (omega arith, omega arith)
gate_reasoned (mask m) iod = test _ _ _ (omega arith, omega arith) made

kind_reasoned : (n : ℕ) (k : Kind) → KindReasoned n k → (held : Held) → Reasoned (by_kind k held)
unfolding by_kind KindReasoned keeping under_mask number_of
kind_reasoned n other it held = refused {r = SubType} (omega arith, omega arith)
kind_reasoned n (free k) it held = bind _ (bodied_reasoned it) λ c. made
kind_reasoned n (masked k) it held = bind _ (bodied_reasoned (bind _ (common_reasoned 12) λ h. bind _ (gate_reasoned held _) λ m. it _ h)) λ c. made
kind_reasoned n (adopts k) it held = bind _ it λ d. made

pub message_reasoned : (held : Held) → Reasoned (message held)
unfolding message_by opening number_of KindReasoned
message_reasoned held =
    bind _ (number _ _ λ _. test _ _ _ (omega arith, omega arith) (number _ _ λ _. made)) λ n. kind_reasoned n (table n) (in_table kinds_reasoned (λ k. tt) n) held

-- ---- how such a program ends badly

abbrev pub Own : Refusal → ℕ → Type 0
Own r missing = ((r ≡ Short) × (0 < missing)) ⊎ (Other r × (missing ≡ 0))

pub ends_so : {A : Type 0} {p : Program A} (l : List Bool) (why : Refusal) (missing : ℕ) → Reasoned p → run p l ≡ badly why missing → Own why missing
unfolding run
ends_so l why missing (made {a}) e = absurd (not_well why missing a 0 (sym e))
ends_so l why missing (refused {r} reason) e =
    let same : r ≡ why = cc in
    let none : 0 ≡ missing = cc in
    inr (subst Other same reason, sym none)
ends_so {A} l why missing (asks {w} {next} it) e = go (dec_lt (length l) w) (ends_so (drop w l) why missing (it (take w l)))
  where
    go : Dec (length l < w) → (run (next (take w l)) (drop w l) ≡ badly why missing → Own why missing) → Own why missing
    go (yes over) rest =
        let same : ◌≡◌ {A = Ended A} (badly Short (w - length l)) (badly why missing) = sym (run_short w next l over) ∙ e in
        let short : why ≡ Short = cc in
        let by : w - length l ≡ missing = cc in
        inl (short, omega arith)
    go (no not) rest =
        let there : w ≤ length l = omega arith in
        rest (later_badly w (run (next (take w l)) (drop w l)) why missing (sym (run_field w next l there) ∙ e))
