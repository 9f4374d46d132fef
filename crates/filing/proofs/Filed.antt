-- From a file's gate to what is told of it.
use Rattle.std.proofs.Common.{◌≡◌, ℕ, ◌+◌, ◌≤◌, false, cond, List, length, Ok, Err, Result, sym, ap, ◌∙◌, subst, arith, length-append}
use Rattle.std.proofs.lemmas.Bool.{ltb-false, le-leb}
use Rattle.octets.specs.Classes.{Bytes}
use Rattle.file.specs.declared.opening.Opening.{Opening}
use Rattle.file.specs.declared.tally.Found.{Found}
use Rattle.file.specs.Counts.{found_in}
use Rattle.file.specs.Records.{records, transactions_of}
use Rattle.calls.specs.Codes.{file_code}
use Rattle.calls.specs.declared.fault.FileFault.{FileFault}
use Rattle.transaction.specs.declared.verdict.Verdict.{Verdict}
use Rattle.packet.specs.Written.{written, written_if}
use Rattle.book.specs.Meaning.{BookMeaning}
use Rattle.promises.specs.Calls.{Handed, answer_with, too_small, check_gate, post_gate}
use Rattle.promises.specs.Packets.{file_item, verdict_items, packet_of, packet_length, accepted_count}
use Rattle.promises.proofs.Items.{packet_long}
use Rattle.promises.proofs.OneReplaced.{check_opens}
use Rattle.promises.proofs.ReadsBack.{post_room}
use Rattle.filing.specs.declared.admit.Admitted.{Admitted}
use Rattle.filing.specs.Admitting.{admitted_by}
use Rattle.filing.specs.Filed.{length_of, packet_in}
use Rattle.filing.proofs.Writes.{written_front}

-- with room enough, all is written
pub put_in : (xs out a b : Bytes) (at : ℕ) → out ≡ written_if xs at b → b ≡ a → at + length a ≤ length xs → out ≡ written xs at a
put_in xs out a b at e is room = e ∙ ap (written_if xs at) is ∙ ap (λ t. cond t (written xs at a) xs) (le-leb (at + length a) (length xs) room)

-- ---- a gate that refuses, and one that admits

pub gate_refused : (g : Result Opening ℕ) (found : Found) (code : ℕ) → Err code ≡ admitted_by g found → g ≡ Err code
gate_refused (Err c) found code e = cc
gate_refused (Ok o) found code e = cc

pub gate_admitted : (g : Result Opening ℕ) (found : Found) (a : Admitted) → Ok a ≡ admitted_by g found → (g ≡ Ok a.opening) × (a.found ≡ found)
gate_admitted (Err c) found a e = (cc, cc)
gate_admitted (Ok o) found a e = let s : a ≡ record { opening = o; found = found } = cc in (ap Ok (sym (ap (λ x. x.opening) s)), ap (λ x. x.found) s)

-- ---- a file that is admitted has room

room_of : (x : Handed) → too_small x ≡ false → packet_length (length (transactions_of x.file)) ≤ x.room
room_of x e = ltb-false x.room (packet_length (length (transactions_of x.file))) e

pub check_room : (x : Handed) (a : Admitted) → Ok a ≡ admitted_by (check_gate x) (found_in x.file) → packet_length (length (transactions_of x.file)) ≤ x.room
check_room x a e = room_of x (check_opens x a.opening (gate_admitted (check_gate x) (found_in x.file) a e).0).1

pub admitted_room : (b : BookMeaning) (x : Handed) (a : Admitted) → Ok a ≡ admitted_by (post_gate b x) (found_in x.file) → packet_length (length (transactions_of x.file)) ≤ x.room
admitted_room b x a e = room_of x (post_room b x a.opening (gate_admitted (post_gate b x) (found_in x.file) a e).0)

-- the number of transactions that was found
pub found_room : (file : Bytes) (g : Result Opening ℕ) (a : Admitted) (n : ℕ) → Ok a ≡ admitted_by g (found_in file) → packet_length (length (transactions_of file)) ≤ n → packet_length a.found.transactions ≤ n
found_room file g a n e h = subst (λ f. packet_length f.transactions ≤ n) (sym (gate_admitted g (found_in file) a e).1) h

-- ---- what is told

pub told_refused : (x : Handed) (vs : List Verdict) (g : Result Opening ℕ) (found : Found) (f : FileFault) (buffer : Bytes) → Err (file_code f) ≡ admitted_by g found →
    (Err (file_code f) ≡ length_of (answer_with x vs g)) × (buffer ≡ packet_in buffer (answer_with x vs g))
told_refused x vs g found f buffer e =
    let is = gate_refused g found (file_code f) e in
    (sym (ap (λ r. length_of (answer_with x vs r)) is), sym (ap (λ r. packet_in buffer (answer_with x vs r)) is))

-- the verdicts behind the first 20 bytes, then the item of the file in front of them
pub told_admitted : (x : Handed) (vs : List Verdict) (g : Result Opening ℕ) (a : Admitted) (buffer judged out : Bytes) (accepted n : ℕ) →
    Ok a ≡ admitted_by g (found_in x.file) → length vs ≡ length (transactions_of x.file) → packet_length (length (transactions_of x.file)) ≤ length buffer →
    accepted ≡ accepted_count vs → judged ≡ written buffer 20 (verdict_items 1 vs) →
    n ≡ packet_length a.found.transactions → out ≡ written judged 0 (file_item a.opening.stated a.found.records a.found.transactions accepted) →
    (Ok n ≡ length_of (answer_with x vs g)) × (out ≡ packet_in buffer (answer_with x vs g))
told_admitted x vs g a buffer judged out accepted n ad long room ea ej en eo =
    let k = gate_admitted g (found_in x.file) a ad in
    let found : a.found ≡ found_in x.file = k.1 in
    let s = a.opening.stated in
    let p = packet_of s (length (records x.file)) vs in
    let pl = packet_long s (length (records x.file)) vs in
    let both = length-append (file_item s (length (records x.file)) (length vs) (accepted_count vs)) (verdict_items 1 vs) in
    let fits : length (file_item s (length (records x.file)) (length vs) (accepted_count vs)) + length (verdict_items 1 vs) ≤ length buffer = omega (arith, both, pl, long, room) in
    let item : file_item s a.found.records a.found.transactions accepted ≡ file_item s (length (records x.file)) (length vs) (accepted_count vs) =
    ap (λ f. file_item s f.records f.transactions accepted) found
    ∙ ap (λ t. file_item s (length (records x.file)) t accepted) (sym long)
    ∙ ap (file_item s (length (records x.file)) (length vs)) ea in
    let whole : out ≡ written buffer 0 p =
    eo ∙ ap (λ j. written j 0 (file_item s a.found.records a.found.transactions accepted)) ej
    ∙ ap (written (written buffer 20 (verdict_items 1 vs)) 0) item
    ∙ written_front buffer (file_item s (length (records x.file)) (length vs) (accepted_count vs)) (verdict_items 1 vs) fits in
    let count : n ≡ length p = en ∙ ap (λ f. packet_length f.transactions) found ∙ ap packet_length (sym long) ∙ sym pl in
    (ap Ok count ∙ sym (ap (λ r. length_of (answer_with x vs r)) k.0), whole ∙ sym (ap (λ r. packet_in buffer (answer_with x vs r)) k.0))
