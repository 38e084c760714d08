-- The bytes that the layouts of a capture leave, and their results when more bytes follow.
use Rattle.std.proofs.Common.{◌≡◌, ℕ, ◌-◌, ◌<◌, ◌≤◌, [], ◌∷◌, ◌++◌, length, take, drop, Ok, Err, Bool, true, false}
use Rattle.std.proofs.Common.{cond, ltb, refl, sym, ap, subst, arith}
use Rattle.std.specs.Prelude.{◌==◌, ⊤}
use Rattle.std.proofs.lemmas.List.{take-append-drop, length-append, length-drop}
use Rattle.std.proofs.lemmas.Bool.{ltb-false}
use Rattle.layouts.specs.Bytes.{Bytes, number_of}
use Rattle.layouts.specs.Layout.{Layout, done, refuse, number, ignored, block, left, tag, window, list, maybe}
use Rattle.layouts.specs.Layout.{either, complete, look, chain, test, choose}
use Rattle.layouts.specs.Meaning.{Broken, Lacks, Answer, EndsWith}
use Rattle.layouts.specs.Reading.{split_at, number_at, ignored_at, tag_at, reading, ◌and_then◌}
use Rattle.layouts.specs.Stable.{IsStable}
use Rattle.layouts.specs.declared.result.ErrorKind.{ErrorKind}
use Rattle.layouts.specs.declared.result.ErrorKind.TheVariants.{Tag}
use Rattle.layouts.proofs.EndLemmas.{ends_after}
use Rattle.layouts.proofs.StableLemmas.{Stays, stays}
use Rattle.capture.specs.Order.{number_by, little}
use Rattle.capture.specs.declared.order.Order.{Order}
use Rattle.capture.specs.declared.order.Order.TheVariants.{Big, Little}
use Rattle.capture.specs.Pcap as pcap
use Rattle.capture.specs.Pcapng.{SECTION, block_by, next_block, order_next, order_of, section_order}

-- The rest is an end of the bytes.
abbrev pub LeavesEnd : {A : Type 0} → Bytes → Answer A → Type 0
LeavesEnd b (Ok x) = EndsWith b x.1
LeavesEnd b (Err e) = ⊤

-- And it is shorter.
abbrev pub LeavesLess : {A : Type 0} → Bytes → Answer A → Type 0
LeavesLess b (Ok x) = length x.1 < length b
LeavesLess b (Err e) = ⊤

leaves_after : {A : Type 0} (b m : Bytes) (y : Answer A) → EndsWith b m → LeavesEnd m y
    → LeavesEnd b y
leaves_after b m (Ok y) e h = ends_after b m y.1 e h
leaves_after b m (Err x) e h = tt

leaves_then : {A B : Type 0} (b : Bytes) (f : A × Bytes → Answer B)
    → ((x : A × Bytes) → LeavesEnd x.1 (f x))
    → (a : Answer A) → LeavesEnd b a → LeavesEnd b (a and_then f)
leaves_then b f h (Ok x) e = leaves_after b x.1 (f x) e (h x)
leaves_then b f h (Err x) e = tt

less_after : {A : Type 0} (b m : Bytes) (y : Answer A) → length m < length b → LeavesEnd m y
    → LeavesLess b y
less_after b m (Ok y) short (front, e) = omega (arith, short, ap length e, length-append front y.1)
less_after b m (Err x) short h = tt

less_behind : {A : Type 0} (b m : Bytes) (y : Answer A) → EndsWith b m → LeavesLess m y
    → LeavesLess b y
less_behind b m (Ok y) (front, e) short = omega (arith, short, ap length e, length-append front m)
less_behind b m (Err x) e short = tt

less_then : {A B : Type 0} (b : Bytes) (f : A × Bytes → Answer B)
    → ((x : A × Bytes) → LeavesEnd x.1 (f x))
    → (a : Answer A) → LeavesLess b a → LeavesLess b (a and_then f)
less_then b f h (Ok x) short = less_after b x.1 (f x) short (h x)
less_then b f h (Err x) short = tt

split_leaves : (n : ℕ) (b : Bytes) → LeavesEnd b (split_at n b)
unfolding split_at
split_leaves n b = go (ltb (length b) n)
  where
    go : (t : Bool) → LeavesEnd b (cond t (Err (Lacks (n - length b))) (Ok (take n b, drop n b)))
    go true = tt
    go false = (take n b, sym (take-append-drop n b))

split_less : (n : ℕ) (b : Bytes) → 0 < n → LeavesLess b (split_at n b)
unfolding split_at
split_less n b some = go (ltb (length b) n) refl
  where
    go : (t : Bool) → ltb (length b) n ≡ t → LeavesLess b
        (cond t (Err (Lacks (n - length b))) (Ok (take n b, drop n b)))
    go true e = tt
    go false e =
        let long : n ≤ length b = ltb-false (length b) n e in
        omega (arith, length-drop n b, some, long)

tag_picked : (c : Bool) (k : ErrorKind) (b r : Bytes) (y : Answer Unit) → EndsWith b r
    → LeavesEnd r y
    → LeavesEnd b (cond c y (Err (Broken k)))
tag_picked true k b r y e h = leaves_after b r y e h
tag_picked false k b r y e h = tt

tag_leaves : (t b : Bytes) → LeavesEnd b (tag_at t b)
unfolding tag_at
tag_leaves [] b = ([], refl)
tag_leaves (x ∷ t) [] = tt
tag_leaves (x ∷ t) (y ∷ b) =
    tag_picked (x == y) Tag (y ∷ b) b (tag_at t b) (y ∷ [], refl) (tag_leaves t b)

same_rest : {A : Type 0} (b r : Bytes) → EndsWith b r → (a : Answer A)
    → LeavesEnd b (a and_then λ x. Ok (x.0, r))
same_rest b r e (Ok x) = e
same_rest b r e (Err x) = tt

pub leaves : {A : Type 0} (l : Layout A) → IsStable l → (b : Bytes) → LeavesEnd b (reading l b)
unfolding number_at ignored_at
leaves (done a) h b = ([], refl)
leaves (refuse k) h b = tt
leaves (number k) h b = leaves_then b (λ x. Ok (number_of x.0, x.1)) (λ x. ([], refl))
    (split_at k b) (split_leaves k b)
leaves (ignored k) h b =
    leaves_then b (λ x. Ok (tt, x.1)) (λ x. ([], refl)) (split_at k b) (split_leaves k b)
leaves (block n) h b = split_leaves n b
leaves left h b = absurd h
leaves (tag t) h b = tag_leaves t b
leaves (window n l) h b =
    leaves_then b (λ w. reading l w.0 and_then λ x. Ok (x.0, w.1))
    (λ w. same_rest w.1 w.1 ([], refl) (reading l w.0))
    (split_at n b) (split_leaves n b)
leaves (list l) h b = absurd h
leaves (maybe l) h b = absurd h
leaves (either l m) h b = absurd h
leaves (complete l) h b = absurd h
leaves (look l) h b = absurd h
leaves (chain l f) h b =
    leaves_then b (λ x. reading (f x.0) x.1) (λ x. leaves (f x.0) (h.1 x.0) x.1) (reading l b)
    (leaves l h.0 b)

-- The layout's first part takes bytes.
abbrev LessFirst : {A : Type 0} → Layout A → Bytes → Type 0
LessFirst (chain l f) b = LeavesLess b (reading l b)
LessFirst l b = ⊥

less_first : {A : Type 0} (l : Layout A) → IsStable l → (b : Bytes) → LessFirst l b
    → LeavesLess b (reading l b)
less_first (chain l f) h b short =
    less_then b (λ x. reading (f x.0) x.1) (λ x. leaves (f x.0) (h.1 x.0) x.1) (reading l b) short
less_first (done a) h b short = absurd short
less_first (refuse k) h b short = absurd short
less_first (number k) h b short = absurd short
less_first (ignored k) h b short = absurd short
less_first (block n) h b short = absurd short
less_first left h b short = absurd short
less_first (tag t) h b short = absurd short
less_first (window n l) h b short = absurd short
less_first (list l) h b short = absurd short
less_first (maybe l) h b short = absurd short
less_first (either l m) h b short = absurd short
less_first (complete l) h b short = absurd short
less_first (look l) h b short = absurd short

number_by_stable : (o : Order) (k : ℕ) → IsStable (number_by o k)
unfolding number_by little
number_by_stable Big k = tt
number_by_stable Little k = (tt, λ x. tt)

number_less : (b : Bytes) → LeavesLess b (reading (number 4) b)
unfolding number_at
number_less b =
    less_then b (λ x. Ok (number_of x.0, x.1)) (λ x. ([], refl)) (split_at 4 b)
    (split_less 4 b (omega arith))

number_by_less : (o : Order) (b : Bytes) → LeavesLess b (reading (number_by o 4) b)
unfolding number_by little
number_by_less Big b = number_less b
number_by_less Little b =
    less_then b (λ x. Ok (Rattle.capture.specs.Order.little_of x.0, x.1)) (λ x. ([], refl))
    (split_at 4 b) (split_less 4 b (omega arith))

test_stable : (t : Bool) (k : ErrorKind) → IsStable (test t k)
test_stable true k = tt
test_stable false k = tt

choose_stable : {A : Type 0} (t : Bool) (l m : Layout A) → IsStable l → IsStable m
    → IsStable (choose t l m)
choose_stable true l m h k = h
choose_stable false l m h k = k

format_stable : (magic : ℕ) → IsStable (pcap.format_of magic)
unfolding pcap.format_of
format_stable magic =
    choose_stable (magic == 0xa1b2c3d4) _ _ tt (
    choose_stable (magic == 0xd4c3b2a1) _ _ tt (
    choose_stable (magic == 0xa1b23c4d) _ _ tt (
    choose_stable (magic == 0x4d3cb2a1) _ _ tt tt)))

pub header_stable : IsStable pcap.header
unfolding pcap.header
header_stable = (
  tt,
  λ magic. (
    format_stable magic,
    λ format. (
      number_by_stable format.order 2,
      λ major. (
        test_stable (major == 2) _,
        λ u. (
          tt,
          λ v. (
            number_by_stable format.order 4,
            λ snap. (number_by_stable format.order 4, λ link. tt),
          ),
        ),
      ),
    ),
  ),
)

pub packet_stable : (format : pcap.Format) → IsStable (pcap.packet format)
unfolding pcap.packet
packet_stable format = (
  number_by_stable format.order 4,
  λ seconds. (
    number_by_stable format.order 4,
    λ fraction. (
      number_by_stable format.order 4,
      λ captured. (
        number_by_stable format.order 4,
        λ original.
            (test_stable _ _, λ u. (tt, λ bytes. tt)),
      ),
    ),
  ),
)

block_by_stable : (o : Order) → IsStable (block_by o)
unfolding block_by
block_by_stable o = (
  number_by_stable o 4,
  λ kind. (
    number_by_stable o 4,
    λ total. (
      test_stable _ _,
      λ u. (
        test_stable _ _,
        λ v.
            (tt, λ body. (number_by_stable o 4, λ again. (test_stable _ _, λ w. tt))),
      ),
    ),
  ),
)

pub header_less : (b : Bytes) → LeavesLess b (reading pcap.header b)
unfolding pcap.header
header_less b = less_first pcap.header header_stable b (number_less b)

pub packet_less : (format : pcap.Format) (b : Bytes) → LeavesLess b (reading (pcap.packet format) b)
unfolding pcap.packet
packet_less format b =
    less_first (pcap.packet format) (packet_stable format) b (number_by_less format.order b)

-- bytes that are only looked at stay
look_stays : {A : Type 0} (b s : Bytes) (x y : Answer A) → Stays s x y
    → Stays s (x and_then λ v. Ok (v.0, b)) (y and_then λ v. Ok (v.0, b ++ s))
look_stays b s (Ok x) y e = ap (λ a. a and_then λ v. Ok (v.0, b ++ s)) e
look_stays b s (Err (Broken k)) y e = ap (λ a. a and_then λ v. Ok (v.0, b ++ s)) e
look_stays b s (Err (Lacks n)) y e = tt

-- a result computed from a value, which leaves the rest alone
then_stays : {A B : Type 0} (s : Bytes) (f : A × Bytes → Answer B)
    → ((x : A × Bytes) → Stays s (f x) (f (x.0, x.1 ++ s))) → (x y : Answer A) → Stays s x y
    → Stays s (x and_then f) (y and_then f)
then_stays s f h (Ok x) y e = subst (λ z. Stays s (f x) (z and_then f)) (sym e) (h x)
then_stays s f h (Err (Broken k)) y e = ap (λ a. a and_then f) e
then_stays s f h (Err (Lacks n)) y e = tt

order_of_stable : (magic : ℕ) → IsStable (order_of magic)
unfolding order_of
order_of_stable magic =
    choose_stable (magic == 0x1a2b3c4d) _ _ tt (choose_stable (magic == 0x4d3c2b1a) _ _ tt tt)

section_order_stable : IsStable section_order
unfolding section_order
section_order_stable = (tt, λ u. (tt, λ magic. order_of_stable magic))

-- the byte order of the next block, by whether it begins a section
picked_stays : (t : Bool) (o : Order) (b s : Bytes)
    → Stays s (reading (choose t (look section_order) (done o)) b)
    (reading (choose t (look section_order) (done o)) (b ++ s))
picked_stays true o b s = look_stays b s (reading section_order b) (reading section_order (b ++ s))
    (stays section_order section_order_stable b s)
picked_stays false o b s = refl

picked_leaves : (t : Bool) (o : Order) (b : Bytes)
    → LeavesEnd b (reading (choose t (look section_order) (done o)) b)
picked_leaves true o b = same_rest b b ([], refl) (reading section_order b)
picked_leaves false o b = ([], refl)

order_next_stays : (o : Order) (b s : Bytes)
    → Stays s (reading (order_next o) b) (reading (order_next o) (b ++ s))
unfolding order_next
order_next_stays o b s =
    then_stays s (λ x. reading (choose (x.0 == SECTION) (look section_order) (done o)) x.1)
    (λ x. picked_stays (x.0 == SECTION) o x.1 s) (reading (look (number 4)) b)
    (reading (look (number 4)) (b ++ s))
    (look_stays b s (reading (number 4) b) (reading (number 4) (b ++ s)) (stays (number 4) tt b s))

order_next_leaves : (o : Order) (b : Bytes) → LeavesEnd b (reading (order_next o) b)
unfolding order_next
order_next_leaves o b =
    leaves_then b (λ x. reading (choose (x.0 == SECTION) (look section_order) (done o)) x.1)
    (λ x. picked_leaves (x.0 == SECTION) o x.1) (reading (look (number 4)) b)
    (same_rest b b ([], refl) (reading (number 4) b))

block_by_less : (o : Order) (b : Bytes) → LeavesLess b (reading (block_by o) b)
unfolding block_by
block_by_less o b = less_first (block_by o) (block_by_stable o) b (number_by_less o b)

pub next_block_stays : (o : Order) (b s : Bytes)
    → Stays s (reading (next_block o) b) (reading (next_block o) (b ++ s))
unfolding next_block
next_block_stays o b s =
    then_stays s (λ x. reading (block_by x.0) x.1)
    (λ x. stays (block_by x.0) (block_by_stable x.0) x.1 s)
    (reading (order_next o) b) (reading (order_next o) (b ++ s)) (order_next_stays o b s)

pub next_block_less : (o : Order) (b : Bytes) → LeavesLess b (reading (next_block o) b)
unfolding next_block
next_block_less o b = behind (reading (order_next o) b) (order_next_leaves o b)
  where
    behind : (a : Answer Order) → LeavesEnd b a
        → LeavesLess b (a and_then λ x. reading (block_by x.0) x.1)
    behind (Ok x) e = less_behind b x.1 (reading (block_by x.0) x.1) e (block_by_less x.0 x.1)
    behind (Err x) e = tt

pub next_block_leaves : (o : Order) (b : Bytes) → LeavesEnd b (reading (next_block o) b)
unfolding next_block
next_block_leaves o b =
    leaves_then b (λ x. reading (block_by x.0) x.1)
    (λ x. leaves (block_by x.0) (block_by_stable x.0) x.1)
    (reading (order_next o) b) (order_next_leaves o b)
