-- From first look's answer and buffer to what is written.
use Rattle.std.proofs.Common.{◌≡◌, ℕ, ◌≤◌, cond, length, take, drop, Ok, Err, Result, refl, ap, ◌∙◌, ap₂, arith}
use Rattle.std.proofs.lemmas.List.{take_at}
use Rattle.std.proofs.lemmas.Bool.{le-leb}
use Rattle.octets.specs.Classes.{Bytes}
use Rattle.calls.specs.Codes.{file_code}
use Rattle.calls.specs.declared.fault.FileFault.{FileFault}
use Rattle.packet.specs.Written.{written}
use Rattle.promises.specs.Calls.{Answer}
use Rattle.promises.specs.Packets.{code_item}
use Rattle.promises.specs.Replaced.{handed}
use Rattle.filing.specs.Admitting.{with_code}
use Rattle.filing.specs.Filed.{length_of, packet_in}
use Rattle.first_look.specs.Looks.{Texts, texts, look_answer}
use Rattle.look_files.specs.Output.{output_of, output_in}

-- what is written
pub output_is : (done : Result ℕ FileFault) (a : Answer) (buffer out : Bytes) → with_code done ≡ length_of a → out ≡ packet_in buffer a → 6 ≤ length buffer → output_in done out ≡ output_of a
output_is (Ok n) (Ok p) buffer out en eo room = let long : length p ≡ n = cc in ap (take n) eo ∙ take_at p (drop _ buffer) n long
output_is (Ok n) (Err code) buffer out en eo room = cc
output_is (Err f) (Ok p) buffer out en eo room = cc
output_is (Err f) (Err code) buffer out en eo room =
    let is : file_code f ≡ code = cc in
    let wide : 6 ≤ length out = omega (arith, ap length eo, room) in
    ap (λ t. take (cond t 6 0) (cond t (written out 0 (code_item (file_code f))) out)) (le-leb 6 (length out) wide)
    ∙ take_at (code_item (file_code f)) (drop 6 out) 6 refl
    ∙ ap code_item is

-- the same texts and the same file are answered alike
pub look_same : (t u : Texts) (file file' : Bytes) (room room' : ℕ) →
    t.agencies ≡ u.agencies → t.offices ≡ u.offices → t.symbols ≡ u.symbols → t.units ≡ u.units → t.accounts ≡ u.accounts → file ≡ file' → room ≡ room' →
    output_of (look_answer t (handed file 0 room)) ≡ output_of (look_answer u (handed file' 0 room'))
look_same t u file file' room room' ea eo es eu em ef er =
    let registers : t ≡ u =
    ap₂ (λ a o. texts a o t.symbols t.units t.accounts) ea eo
    ∙ ap₂ (λ s n. texts u.agencies u.offices s n t.accounts) es eu
    ∙ ap (texts u.agencies u.offices u.symbols u.units) em in
    ap₂ (λ r x. output_of (look_answer r x)) registers (ap₂ (λ f n. handed f 0 n) ef er)
