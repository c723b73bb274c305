-- Demands 1 and 2 of `write` and `read`, then of `hundurzek_write` and `hundurzek_read`, by their contracts. Assumes nothing.
use mathlib.Core.Path.{◌≡◌, refl, sym, ap, ◌∙◌}
use mathlib.Core.Bool.{Bool, true, false, cond}
use mathlib.Core.List.{List, []}
use Prim.Native.Nat.{ℕ}
use lib.IntN.{ℤ}
use Rattle.bits.proofs.Windows.{Bytes}
use Rattle.format.specs.declared.Head.{Head}
use Rattle.format.specs.Answers.{Done, undone_at}
use Rattle.format.specs.Masks.{stray, lent}
use Rattle.format.specs.Writing.{Written, wrote, refused, writing, done_writing}
use Rattle.format.specs.Writing as Writing
use Rattle.holding.specs.declared.Holding.{Holding}
use Rattle.holding.specs.Pictures.{mask_of, sound, lent_by}
use Rattle.holding.proofs.Sounds.{sounds}
use Rattle.host.specs.Handing.{bytes_after}
use Rattle.host_write.specs.Writes.{head_in, written_handed}
use Rattle.host.proofs.Outcomes.{bytes_stay}
use Rattle.promises.specs.Calls.{CodeCall, HostCall}
use Rattle.promises.specs.RoundTrips.{ReadingGivesBack, WritingGivesBack, WritingInPlace, OneAnswer, RefusalLeaves, done_by, CodeWrite, done_in, HostWrite}
use Rattle.promises.proofs.CallsOfRead.{anywhere, lent_anywhere, not_answered, kept, struct_passes, code_reads, lent_in, bytes_passes, host_reads_lem}
use Rattle.promises.proofs.RoundTrips.{Write, one_answer, refusal_leaves, reading_gives_back, writing_gives_back, writing_in_place, one_so, refusal_so, records_too, bits_too, place_too}
use Rattle.reader.specs.Readings.{struct_of}
use Rattle.writer.specs.Stages.{answered}

-- ---- in Rattle

-- a struct that a stop hands back is the one that was passed
struct_stays : (h : Holding) → struct_of h (lent_by h) ≡ h
unfolding struct_of lent_by
struct_stays h = go (sound h) refl
  where
    go : (b : Bool) → sound h ≡ b → struct_of h (cond b (lent (mask_of h)) stray) ≡ h
    go true e = (sounds h e).picture
    go false e = refl

-- what is answered says how writing ended
done_back : (start : ℕ) (o : Written) → done_by start (answered start o) ≡ done_writing start o
unfolding done_by answered done_writing
done_back start (wrote new) = refl
done_back start (refused r) = refl

module _ (h : Holding) (head : Head) (rows : List ℤ) (count : ℕ) (bytes : List ℕ) (start : ℕ) where
  abbrev code_writing : Written
  code_writing = writing (lent_by h) head rows count bytes start

  code_writes : (said : Done) (left : List ℕ) → CodeWrite h head rows count bytes start said left → Write lent_by kept h head rows count bytes start said left
  code_writes said left c = record {
    says = sym c.says ∙ ap (done_by start) c.allowed.0 ∙ done_back start code_writing;
    leaves = c.allowed.1;
    octets = c.octets;
    stays = struct_stays h;
  }

  -- "Each call ends with an answer": what the contract allows is there for every input
  pub write_answers : Bytes bytes → CodeWrite h head rows count bytes start (done_writing start code_writing) (Writing.bytes_after code_writing bytes start)
  write_answers small = record {
    κs = ([], ([], tt));
    numbers = anywhere;
    target = lent_anywhere;
    octets = small;
    result = answered start code_writing;
    says = done_back start code_writing;
    allowed = (refl, refl);
  }

pub write_one_answer : OneAnswer CodeWrite
write_one_answer = one_so code_writes (one_answer lent_by kept)

pub write_refusal_leaves : RefusalLeaves CodeWrite
write_refusal_leaves = refusal_so code_writes (refusal_leaves lent_by kept)

pub reading_gives_back_the_records : ReadingGivesBack CodeWrite CodeCall
reading_gives_back_the_records = records_too code_writes code_reads (reading_gives_back lent_by kept)

pub writing_gives_back_the_bits : WritingGivesBack CodeWrite CodeCall
writing_gives_back_the_bits = bits_too code_writes code_reads (writing_gives_back lent_by kept struct_passes)

pub writing_in_place_changes_nothing : WritingInPlace CodeWrite CodeCall
writing_in_place_changes_nothing = place_too code_writes code_reads (writing_in_place lent_by kept struct_passes)

-- ---- in C

handed_back : (start : ℕ) (o : Written) → done_in (written_handed start (done_writing start o)) ≡ done_writing start o
unfolding done_in written_handed done_writing undone_at
handed_back start (wrote new) = refl
handed_back start (refused r) = rw (not_answered r)

module _ (hb : List ℕ) (head : Head) (rows : List ℤ) (count : ℕ) (bytes : List ℕ) (start : ℕ) where
  host_writes_lem : (said : Done) (left : List ℕ) → HostWrite hb head rows count bytes start said left → Write lent_in bytes_after hb head rows count bytes start said left
  host_writes_lem said left c =
      let o = writing (lent_in hb) (head_in c.words) rows count bytes start in
      let same : o ≡ writing (lent_in hb) head rows count bytes start = ap (λ (x : Head). writing (lent_in hb) x rows count bytes start) c.heads in
      record {
        says = sym c.says ∙ ap done_in c.allowed.0 ∙ handed_back start o ∙ ap (done_writing start) same;
        leaves = c.allowed.1 ∙ ap (λ (w : Written). Writing.bytes_after w bytes start) same;
        octets = c.octets;
        stays = sym (bytes_stay hb c.held_octets);
      }

module _ (hb : List ℕ) (words : List ℤ) (rows : List ℤ) (count : ℕ) (bytes : List ℕ) (start : ℕ) where
  abbrev host_writing : Written
  host_writing = writing (lent_in hb) (head_in words) rows count bytes start

  pub hundurzek_write_answers : Bytes bytes → Bytes hb
      → HostWrite hb (head_in words) rows count bytes start (done_writing start host_writing) (Writing.bytes_after host_writing bytes start)
  hundurzek_write_answers small held_small = record {
    κs = ([], ([], ([], ([], tt))));
    lent = anywhere;
    headed = anywhere;
    numbers = anywhere;
    target = lent_anywhere;
    words = words;
    heads = refl;
    octets = small;
    held_octets = held_small;
    result = written_handed start (done_writing start host_writing);
    says = handed_back start host_writing;
    allowed = (refl, refl);
  }

pub hundurzek_write_one_answer : OneAnswer HostWrite
hundurzek_write_one_answer = one_so host_writes_lem (one_answer lent_in bytes_after)

pub hundurzek_write_refusal_leaves : RefusalLeaves HostWrite
hundurzek_write_refusal_leaves = refusal_so host_writes_lem (refusal_leaves lent_in bytes_after)

pub hundurzek_reading_gives_back_the_records : ReadingGivesBack HostWrite HostCall
hundurzek_reading_gives_back_the_records = records_too host_writes_lem host_reads_lem (reading_gives_back lent_in bytes_after)

pub hundurzek_writing_gives_back_the_bits : WritingGivesBack HostWrite HostCall
hundurzek_writing_gives_back_the_bits = bits_too host_writes_lem host_reads_lem (writing_gives_back lent_in bytes_after bytes_passes)

pub hundurzek_writing_in_place_changes_nothing : WritingInPlace HostWrite HostCall
hundurzek_writing_in_place_changes_nothing = place_too host_writes_lem host_reads_lem (writing_in_place lent_in bytes_after bytes_passes)
