-- The item at the front of a capture's bytes, when more bytes follow.
use Rattle.std.proofs.Common.{◌≡◌, ℕ, ◌+◌, ◌-◌, ◌<◌, [], ◌++◌, drop, length, Ok, Err, Some, None, Bool, true, false}
use Rattle.std.proofs.Common.{cond, refl, ap, subst, sym, ◌∙◌, arith}
use Rattle.std.specs.Prelude.{◌==◌, ⊤}
use Rattle.std.proofs.lemmas.List.{length-append}
use Rattle.std.proofs.Math.Seq.{drop-append_seam}
use Rattle.layouts.specs.Bytes.{Bytes}
use Rattle.layouts.specs.Layout.{number}
use Rattle.layouts.specs.Meaning.{Broken, Lacks, Answer, EndsWith}
use Rattle.layouts.specs.Reading.{reading}
use Rattle.layouts.proofs.StableLemmas.{Stays, stays}
use Rattle.capture.specs.Pcap as pcap
use Rattle.capture.specs.Pcapng.{Block, SECTION, next_block}
use Rattle.packets.specs.Section.{Section, BlockResult, beginning, block_result}
use Rattle.packets.specs.Front.{Longer, State, Unknown, Pcap, Blocks, Captured, Other, Wait, FrontResult, header_front}
use Rattle.packets.specs.Front.{form_front, pcap_front, front_of_result, block_front, front}
use Rattle.packets.proofs.LayoutLemmas.{LeavesEnd, LeavesLess, leaves, next_block_leaves, header_stable, packet_stable}
use Rattle.packets.proofs.LayoutLemmas.{next_block_stays, header_less, packet_less, next_block_less}

header_longer : (x : Bytes) (a b : Answer pcap.Header) → Stays x a b
    → Longer x (header_front a) (header_front b)
header_longer x (Ok v) b e = ap header_front e
header_longer x (Err (Broken k)) b e = ap header_front e
header_longer x (Err (Lacks n)) b e = tt

form_picked : (t : Bool) (b x : Bytes) → Longer x
    (cond t (Ok (Other b, Blocks beginning)) (header_front (reading pcap.header b)))
    (cond t (Ok (Other (b ++ x), Blocks beginning)) (header_front (reading pcap.header (b ++ x))))
form_picked true b x = refl
form_picked false b x =
    header_longer x (reading pcap.header b) (reading pcap.header (b ++ x))
    (stays pcap.header header_stable b x)

form_longer : (b x : Bytes) (a c : Answer ℕ) → Stays x a c
    → Longer x (form_front a b) (form_front c (b ++ x))
form_longer b x (Ok v) c e =
    subst (λ z. Longer x (form_front (Ok v) b) (form_front z (b ++ x))) (sym e)
    (form_picked (v.0 == SECTION) b x)
form_longer b x (Err k) c e = tt

pcap_longer : (format : pcap.Format) (link : ℕ) (x : Bytes) (a b : Answer pcap.Packet) → Stays x a b
    → Longer x (pcap_front format link a) (pcap_front format link b)
pcap_longer format link x (Ok v) b e = ap (pcap_front format link) e
pcap_longer format link x (Err (Broken k)) b e = ap (pcap_front format link) e
pcap_longer format link x (Err (Lacks n)) b e = tt

result_longer : (r x : Bytes) (h : BlockResult)
    → Longer x (front_of_result r h) (front_of_result (r ++ x) h)
result_longer r x (Ok (Some p, s)) = refl
result_longer r x (Ok (None, s)) = refl
result_longer r x (Err e) = refl

block_longer : (s : Section) (x : Bytes) (a b : Answer Block) → Stays x a b
    → Longer x (block_front s a) (block_front s b)
block_longer s x (Ok v) b e =
    subst (λ z. Longer x (block_front s (Ok v)) (block_front s z)) (sym e)
    (result_longer v.1 x (block_result s v.0))
block_longer s x (Err (Broken k)) b e = ap (block_front s) e
block_longer s x (Err (Lacks n)) b e = tt

pub front_longer : (s : State) (b x : Bytes) → Longer x (front s b) (front s (b ++ x))
front_longer Unknown b x =
    form_longer b x (reading (number 4) b) (reading (number 4) (b ++ x)) (stays (number 4) tt b x)
front_longer (Pcap format link) b x =
    pcap_longer format link x (reading (pcap.packet format) b)
    (reading (pcap.packet format) (b ++ x))
    (stays (pcap.packet format) (packet_stable format) b x)
front_longer (Blocks s) b x =
    block_longer s x (reading (next_block s.order) b) (reading (next_block s.order) (b ++ x))
    (next_block_stays s.order b x)

-- The most steps that bytes take: one for each byte, and one to recognize the format.
abbrev pub steps : State → Bytes → ℕ
steps Unknown b = 1 + length b
steps (Pcap format link) b = length b
steps (Blocks s) b = length b

-- An item leaves fewer steps behind it.
abbrev pub Takes : ℕ → FrontResult → Type 0
Takes n (Ok (Captured p r, s)) = steps s r < n
Takes n (Ok (Other r, s)) = steps s r < n
Takes n (Ok (Wait, s)) = ⊤
Takes n (Err e) = ⊤

header_takes : (b : Bytes) (a : Answer pcap.Header) → LeavesLess b a
    → Takes (1 + length b) (header_front a)
header_takes b (Ok v) short = omega (arith, short)
header_takes b (Err (Broken k)) short = tt
header_takes b (Err (Lacks n)) short = tt

form_takes_picked : (t : Bool) (b : Bytes) → Takes (1 + length b)
    (cond t (Ok (Other b, Blocks beginning)) (header_front (reading pcap.header b)))
form_takes_picked true b = omega arith
form_takes_picked false b = header_takes b (reading pcap.header b) (header_less b)

form_takes : (b : Bytes) (a : Answer ℕ) → Takes (1 + length b) (form_front a b)
form_takes b (Ok v) = form_takes_picked (v.0 == SECTION) b
form_takes b (Err k) = tt

pcap_takes : (format : pcap.Format) (link : ℕ) (b : Bytes) (a : Answer pcap.Packet) → LeavesLess b a
    → Takes (length b) (pcap_front format link a)
pcap_takes format link b (Ok v) short = short
pcap_takes format link b (Err (Broken k)) short = tt
pcap_takes format link b (Err (Lacks n)) short = tt

result_takes : (n : ℕ) (r : Bytes) (h : BlockResult) → length r < n → Takes n (front_of_result r h)
result_takes n r (Ok (Some p, s)) short = short
result_takes n r (Ok (None, s)) short = short
result_takes n r (Err e) short = tt

block_takes : (s : Section) (b : Bytes) (a : Answer Block) → LeavesLess b a
    → Takes (length b) (block_front s a)
block_takes s b (Ok v) short = result_takes (length b) v.1 (block_result s v.0) short
block_takes s b (Err (Broken k)) short = tt
block_takes s b (Err (Lacks n)) short = tt

pub front_takes : (s : State) (b : Bytes) → Takes (steps s b) (front s b)
front_takes Unknown b = form_takes b (reading (number 4) b)
front_takes (Pcap format link) b =
    pcap_takes format link b (reading (pcap.packet format) b) (packet_less format b)
front_takes (Blocks s) b =
    block_takes s b (reading (next_block s.order) b) (next_block_less s.order b)

-- With too few bytes the state doesn't change.
abbrev pub Waits : State → FrontResult → Type 0
Waits s (Ok (Wait, t)) = t ≡ s
Waits s y = ⊤

header_waits : (a : Answer pcap.Header) → Waits Unknown (header_front a)
header_waits (Ok v) = tt
header_waits (Err (Broken k)) = tt
header_waits (Err (Lacks n)) = refl

form_waits_picked : (t : Bool) (b : Bytes) → Waits Unknown
    (cond t (Ok (Other b, Blocks beginning)) (header_front (reading pcap.header b)))
form_waits_picked true b = tt
form_waits_picked false b = header_waits (reading pcap.header b)

form_waits : (b : Bytes) (a : Answer ℕ) → Waits Unknown (form_front a b)
form_waits b (Ok v) = form_waits_picked (v.0 == SECTION) b
form_waits b (Err k) = refl

pcap_waits : (format : pcap.Format) (link : ℕ) (a : Answer pcap.Packet)
    → Waits (Pcap format link) (pcap_front format link a)
pcap_waits format link (Ok v) = tt
pcap_waits format link (Err (Broken k)) = tt
pcap_waits format link (Err (Lacks n)) = refl

result_waits : (s : State) (r : Bytes) (h : BlockResult) → Waits s (front_of_result r h)
result_waits s r (Ok (Some p, t)) = tt
result_waits s r (Ok (None, t)) = tt
result_waits s r (Err e) = tt

block_waits : (s : Section) (a : Answer Block) → Waits (Blocks s) (block_front s a)
block_waits s (Ok v) = result_waits (Blocks s) v.1 (block_result s v.0)
block_waits s (Err (Broken k)) = tt
block_waits s (Err (Lacks n)) = refl

pub front_waits : (s : State) (b : Bytes) → Waits s (front s b)
front_waits Unknown b = form_waits b (reading (number 4) b)
front_waits (Pcap format link) b = pcap_waits format link (reading (pcap.packet format) b)
front_waits (Blocks s) b = block_waits s (reading (next_block s.order) b)

-- The bytes behind the item are an end of all bytes.
abbrev pub RestIsAnEnd : Bytes → FrontResult → Type 0
RestIsAnEnd b (Ok (Captured p r, s)) = EndsWith b r
RestIsAnEnd b (Ok (Other r, s)) = EndsWith b r
RestIsAnEnd b (Ok (Wait, s)) = ⊤
RestIsAnEnd b (Err e) = ⊤

header_ends : (b : Bytes) (a : Answer pcap.Header) → LeavesEnd b a → RestIsAnEnd b (header_front a)
header_ends b (Ok v) end = end
header_ends b (Err (Broken k)) end = tt
header_ends b (Err (Lacks n)) end = tt

form_ends_picked : (t : Bool) (b : Bytes) → RestIsAnEnd b
    (cond t (Ok (Other b, Blocks beginning)) (header_front (reading pcap.header b)))
form_ends_picked true b = ([], refl)
form_ends_picked false b =
    header_ends b (reading pcap.header b) (leaves pcap.header header_stable b)

form_ends : (b : Bytes) (a : Answer ℕ) → RestIsAnEnd b (form_front a b)
form_ends b (Ok v) = form_ends_picked (v.0 == SECTION) b
form_ends b (Err k) = tt

pcap_ends : (format : pcap.Format) (link : ℕ) (b : Bytes) (a : Answer pcap.Packet) → LeavesEnd b a
    → RestIsAnEnd b (pcap_front format link a)
pcap_ends format link b (Ok v) end = end
pcap_ends format link b (Err (Broken k)) end = tt
pcap_ends format link b (Err (Lacks n)) end = tt

result_ends : (b r : Bytes) (h : BlockResult) → EndsWith b r → RestIsAnEnd b (front_of_result r h)
result_ends b r (Ok (Some p, s)) end = end
result_ends b r (Ok (None, s)) end = end
result_ends b r (Err e) end = tt

block_ends : (s : Section) (b : Bytes) (a : Answer Block) → LeavesEnd b a
    → RestIsAnEnd b (block_front s a)
block_ends s b (Ok v) end = result_ends b v.1 (block_result s v.0) end
block_ends s b (Err (Broken k)) end = tt
block_ends s b (Err (Lacks n)) end = tt

pub front_ends : (s : State) (b : Bytes) → RestIsAnEnd b (front s b)
front_ends Unknown b = form_ends b (reading (number 4) b)
front_ends (Pcap format link) b =
    pcap_ends format link b (reading (pcap.packet format) b)
    (leaves (pcap.packet format) (packet_stable format) b)
front_ends (Blocks s) b =
    block_ends s b (reading (next_block s.order) b) (next_block_leaves s.order b)

-- an end of the bytes is found by its length
pub last_bytes : (b r : Bytes) → EndsWith b r → drop (length b - length r) b ≡ r
last_bytes b r (front, e) =
    let counted : length b - length r ≡ length front =
    omega (arith, ap length e, length-append front r) in
    ap (λ n. drop n b) counted ∙ ap (drop (length front)) e ∙ drop-append_seam front r
