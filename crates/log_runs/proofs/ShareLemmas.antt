-- Which packets and connections are of a part.
use Rattle.std.proofs.Common.{◌≡◌, ℕ, ◌+◌, ◌/◌, ◌%◌, ◌^◌, ◌==◌, Bool, true, false, cond, Option, Some, None, List, [], ◌∷◌, ◌++◌, refl, sym, ap, ◌∙◌, subst, arith}
use Rattle.std.specs.Net.Addr.{IsIpv4OfBits, IsIpv6OfBits, octets_of}
use Rattle.std.specs.Ordering.{partial_le}
use Rattle.std.specs.Prelude.{◌&&◌, if◌then◌else◌, is_some, not}
use Rattle.std.specs.declared.net.ip_addr.IpAddr.{IpAddr}
use Rattle.std.specs.declared.net.ip_addr.IpAddr.TheVariants as ip
use Rattle.layouts.specs.Bytes.{bytes_of}
use Rattle.capture.specs.Ip.{Address, Datagram, V4, V6}
use Rattle.capture.specs.Transport.{Content as Carried}
use Rattle.capture.specs.Transport as content
use Rattle.arrivals.specs.Arrival.{IsAddress, five_tuple_in, is_logged}
use Rattle.arrivals.specs.Reader.{IsEnd, Reads, ReadsContent, ReadsInside}
use Rattle.arrivals.specs.Counts.{with_packet_counted}
use Rattle.arrivals.specs.declared.arrival.Arrival.{Arrival}
use Rattle.arrivals.specs.declared.arrival.Arrival.TheVariants as arrival
use Rattle.arrivals.specs.declared.reader.ArrivalReader.{ArrivalReader}
use Rattle.connection_parts.proofs.HashLemmas.{both_directions}
use Rattle.connection_parts.specs.Part.{address_bytes, end_hash, falls_to, fnv_1a, protocol_number, spread}
use Rattle.connection_parts.specs.declared.part.Part.{Part}
use Rattle.connections.proofs.TableLemmas.{the_same}
use Rattle.connections.specs.FiveTuple.{five_tuple_between, is_five_tuple}
use Rattle.connections.specs.Table.{Table, at}
use Rattle.connections.specs.contracts.five_tuple.EndPartialOrd.TheImpl as end_order
use Rattle.connections.specs.declared.connection.Connection.{Connection}
use Rattle.connections.specs.declared.five_tuple.End.{End}
use Rattle.connections.specs.declared.five_tuple.FiveTuple.{FiveTuple}
use Rattle.connections.specs.declared.five_tuple.Protocol.{Protocol}
use Rattle.connections.specs.declared.five_tuple.Protocol.TheVariants.{Tcp, Udp}
use Rattle.packets.specs.Section.{Packet}
use Rattle.tunnels.specs.Walk.{Deeper, Held, Inside, Other, Unread, unwrapped}
use Rattle.log_connections.specs.declared.analysis.TlsAnalysis.{TlsAnalysis}
use Rattle.log_connections.specs.Log.{Accepts, Takes}
use Rattle.log_connections.specs.Packet.{Arrives, HandlesContent, ends, goes_on}
use Rattle.log_connections.specs.Packet.Arrives.{is_refused}
use Rattle.log_connections.specs.Reading.{Content, InFragments, Nothing, Whole}
use Rattle.log_runs.proofs.CountLemmas.{times-append}
use Rattle.log_runs.proofs.OthersLemmas.{others_stay}
use Rattle.log_runs.proofs.RunLemmas.{run_count}
use Rattle.log_runs.proofs.StaysLemmas.{each_stays}
use Rattle.log_runs.specs.Counting.{count_of, rest_of, times}
use Rattle.log_runs.specs.Parts.{are_of_other_parts, are_of_part, entries_of_part, is_content_of_others, is_content_of_part, is_of_part}
use Rattle.log_runs.specs.Runs.{HandlesEach, IsRun, StaysOrComesOut, are_of_others, begun_by, begun_if, begun_in, begun_of, begun_over, is_of_other, log_of, none_yet, one_more, outs_over, refused_over}

-- A connection is logged by a part exactly if it falls to it, whichever end is its sender's.
logged_by : (part : Part) (n : ℕ) (p : Protocol) (a b : End)
    → is_logged (Some part) p a b ≡ is_of_part part (five_tuple_between n p a b)
logged_by part n p a b = go (partial_le end_order.ghosts.partial_cmp a b)
  where
    go : (c : Bool) → falls_to p a b part
        ≡ is_of_part part (if c then
        record { network = n; protocol = p; lower = a; upper = b }
        else record { network = n; protocol = p; lower = b; upper = a })
    go true = refl
    go false = both_directions p a b part

-- Two ends with the address and the port of one header fall to the same part.
same_address : (x : Address) (a b : IpAddr) → IsAddress x a → IsAddress x b
    → address_bytes a ≡ address_bytes b
unfolding IsIpv4OfBits IsIpv6OfBits
same_address (V4 n) (ip.V4 a) (ip.V4 b) h k = h ∙ sym k
same_address (V4 n) (ip.V4 a) (ip.V6 b) h k = absurd k
same_address (V4 n) (ip.V6 a) b h k = absurd h
same_address (V6 upper lower) (ip.V4 a) b h k = absurd h
same_address (V6 upper lower) (ip.V6 a) (ip.V4 b) h k = absurd k
same_address (V6 upper lower) (ip.V6 a) (ip.V6 b) h k = ap octets_of (h ∙ sym k)

same_end : (x : Address) (n : ℕ) (e f : End) → IsEnd x n e → IsEnd x n f
    → end_hash e ≡ end_hash f
same_end x n e f h k =
    ap (λ b. fnv_1a (b ++ bytes_of 2 e.port)) (same_address x e.address f.address h.address k.address)
    ∙ ap (λ m. fnv_1a (address_bytes f.address ++ bytes_of 2 m)) (h.port ∙ sym k.port)

same_part : (part : Part) (p : Protocol) (a b e f : End) → end_hash a ≡ end_hash e
    → end_hash b ≡ end_hash f → falls_to p a b part ≡ falls_to p e f part
same_part part p a b e f h k =
    ap (λ x. spread (((x + end_hash b) % 2 ^ 64 + protocol_number p) % 2 ^ 64) / 2 ^
    32 % (part.last + 1) == part.number) h
    ∙ ap (λ x. spread (((end_hash e + x) % 2 ^ 64 + protocol_number p) % 2 ^ 64) / 2 ^
    32 % (part.last + 1) == part.number) k

-- The reader of a part hands on its own arrivals.
module _ (part : Part) where
  by_part : (p : Protocol) (n : ℕ) (a b : End) (o : Option Part) (x : Bool) → o ≡ Some part
      → is_logged o p a b ≡ x → is_of_part part (five_tuple_between n p a b) ≡ x
  by_part p n a b o x is logged =
      sym (logged_by part n p a b) ∙ subst (λ q. is_logged q p a b ≡ x) is logged

  own_content : (p : Packet) (d : Datagram) (c : Carried) (old new : ArrivalReader) (a : Arrival)
      → old.part ≡ Some part → ReadsContent p d c old new (Some a)
      → is_of_part part (five_tuple_in a) ≡ true
  own_content p d (content.Tcp t) old new (arrival.Segment s) is reads =
      by_part Tcp s.network s.source s.destination old.part true is reads.logged
  own_content p d (content.Tcp t) old new (arrival.Datagram g) is reads = absurd reads
  own_content p d (content.Udp u) old new (arrival.Segment s) is reads = absurd reads
  own_content p d (content.Udp u) old new (arrival.Datagram g) is reads =
      by_part Udp g.network g.source g.destination old.part true is reads.logged
  own_content p d content.Fragment old new a is reads =
      let none : ◌≡◌ {A = Option Arrival} (Some a) None = reads.0 in cc
  own_content p d (content.Other n b) old new a is reads =
      let none : ◌≡◌ {A = Option Arrival} (Some a) None = reads.0 in cc

  own_inside : (p : Packet) (i : Inside) (old new : ArrivalReader) (a : Arrival)
      → old.part ≡ Some part → ReadsInside p i old new (Some a)
      → is_of_part part (five_tuple_in a) ≡ true
  own_inside p (Held d) old new a is reads = own_content p d d.content old new a is reads
  own_inside p Other old new a is reads =
      let none : ◌≡◌ {A = Option Arrival} (Some a) None = reads.0 in cc
  own_inside p Unread old new a is reads =
      let none : ◌≡◌ {A = Option Arrival} (Some a) None = reads.0 in cc
  own_inside p Deeper old new a is reads =
      let none : ◌≡◌ {A = Option Arrival} (Some a) None = reads.0 in cc

  pub own_read : (p : Packet) (old new : ArrivalReader) (a : Arrival)
      → old.part ≡ Some part → Reads p old new (Some a)
      → is_of_part part (five_tuple_in a) ≡ true
  own_read p old new a is reads =
      own_inside p (unwrapped p.link_type p.bytes).inside
      (record (record old { counts = with_packet_counted old.counts }) { tunnels = new.tunnels })
      new a is reads.reads

  -- It hands on each arrival of its own.
  fell : (x : Address) (m : ℕ) (y : Address) (k : ℕ) (p : Protocol) (n : ℕ) (a b e f : End)
      (o : Option Part) (z : Bool) → IsEnd x m a → IsEnd y k b → IsEnd x m e → IsEnd y k f
      → o ≡ Some part → is_logged o p e f ≡ z
      → z ≡ is_of_part part (five_tuple_between n p a b)
  fell x m y k p n a b e f o z from to sends receives is logged =
      sym (subst (λ q. is_logged q p e f ≡ z) is logged)
      ∙ same_part part p e f a b (same_end x m e a sends from) (same_end y k f b receives to)
      ∙ logged_by part n p a b

  each_content : (p : Packet) (d : Datagram) (c : Carried) (whole after mine behind : ArrivalReader)
      (a : Arrival) (o : Option Arrival) → mine.part ≡ Some part
      → ReadsContent p d c whole after (Some a) → ReadsContent p d c mine behind o
      → is_some o ≡ is_of_part part (five_tuple_in a)
  each_content p d (content.Tcp t) whole after mine behind (arrival.Segment s) None is all own =
      fell d.source t.source d.destination t.destination Tcp s.network s.source s.destination
      own.sender own.receiver mine.part false all.is.source all.is.destination own.sends
      own.receives is own.other
  each_content p d (content.Tcp t) whole after mine behind (arrival.Segment s)
      (Some (arrival.Segment r)) is all own =
      fell d.source t.source d.destination t.destination Tcp s.network s.source s.destination
      r.source r.destination mine.part true all.is.source all.is.destination own.is.source
      own.is.destination is own.logged
  each_content p d (content.Tcp t) whole after mine behind (arrival.Segment s)
      (Some (arrival.Datagram g)) is all own = absurd own
  each_content p d (content.Tcp t) whole after mine behind (arrival.Datagram g) o is all own =
      absurd all
  each_content p d (content.Udp u) whole after mine behind (arrival.Segment s) o is all own =
      absurd all
  each_content p d (content.Udp u) whole after mine behind (arrival.Datagram g) None is all own =
      fell d.source u.source d.destination u.destination Udp g.network g.source g.destination
      own.sender own.receiver mine.part false all.is.source all.is.destination own.sends
      own.receives is own.other
  each_content p d (content.Udp u) whole after mine behind (arrival.Datagram g)
      (Some (arrival.Segment r)) is all own = absurd own
  each_content p d (content.Udp u) whole after mine behind (arrival.Datagram g)
      (Some (arrival.Datagram h)) is all own =
      fell d.source u.source d.destination u.destination Udp g.network g.source g.destination
      h.source h.destination mine.part true all.is.source all.is.destination own.is.source
      own.is.destination is own.logged
  each_content p d content.Fragment whole after mine behind a o is all own =
      let none : ◌≡◌ {A = Option Arrival} (Some a) None = all.0 in cc
  each_content p d (content.Other n b) whole after mine behind a o is all own =
      let none : ◌≡◌ {A = Option Arrival} (Some a) None = all.0 in cc

  each_inside : (p : Packet) (i : Inside) (whole after mine behind : ArrivalReader)
      (a : Arrival) (o : Option Arrival) → mine.part ≡ Some part
      → ReadsInside p i whole after (Some a) → ReadsInside p i mine behind o
      → is_some o ≡ is_of_part part (five_tuple_in a)
  each_inside p (Held d) whole after mine behind a o is all own =
      each_content p d d.content whole after mine behind a o is all own
  each_inside p Other whole after mine behind a o is all own =
      let none : ◌≡◌ {A = Option Arrival} (Some a) None = all.0 in cc
  each_inside p Unread whole after mine behind a o is all own =
      let none : ◌≡◌ {A = Option Arrival} (Some a) None = all.0 in cc
  each_inside p Deeper whole after mine behind a o is all own =
      let none : ◌≡◌ {A = Option Arrival} (Some a) None = all.0 in cc

  pub each_read : (p : Packet) (whole after mine behind : ArrivalReader) (a : Arrival)
      (o : Option Arrival) → mine.part ≡ Some part → Reads p whole after (Some a)
      → Reads p mine behind o → is_some o ≡ is_of_part part (five_tuple_in a)
  each_read p whole after mine behind a o is all own =
      each_inside p (unwrapped p.link_type p.bytes).inside
      (record (record whole { counts = with_packet_counted whole.counts }) {
        tunnels = after.tunnels;
      })
      after
      (record (record mine { counts = with_packet_counted mine.counts }) {
        tunnels = behind.tunnels;
      })
      behind a o is all.reads own.reads

  -- Five-tuples of two parts differ.
  differs : (f e : FiveTuple) (x y : Bool) → is_of_part part f ≡ x → is_of_part part e ≡ y
      → (x ≡ y → ⊥) → is_five_tuple f e ≡ false
  differs f e x y h k apart = (elim (is_five_tuple f e) as
      (λ b. is_five_tuple f e ≡ b → b ≡ false) [
        | true ↦ λ t. absurd (apart (sym h ∙ ap (is_of_part part) (the_same f e t) ∙ k))
        | false ↦ λ t. refl
      ]) refl

  true_false : (b : Bool) → not b ≡ true → b ≡ false
  true_false true h = cc
  true_false false h = refl

  -- Packets of other parts are of other five-tuples than the part's, and those of the part of
  -- others than those of other parts.
  others_of : (e : FiveTuple) (c : Content) → is_of_part part e ≡ true
      → is_content_of_others part c ≡ true → is_of_other e c ≡ true
  others_of e Nothing own others = refl
  others_of e (Whole a) own others =
      ap not (differs (five_tuple_in a) e false true (true_false _ others) own (λ h. cc))
  others_of e (InFragments a n) own others =
      ap not (differs (five_tuple_in a) e false true (true_false _ others) own (λ h. cc))

  own_of : (e : FiveTuple) (c : Content) → is_of_part part e ≡ false
      → is_content_of_part part c ≡ true → is_of_other e c ≡ true
  own_of e Nothing other own = refl
  own_of e (Whole a) other own =
      ap not (differs (five_tuple_in a) e true false own other (λ h. cc))
  own_of e (InFragments a n) other own =
      ap not (differs (five_tuple_in a) e true false own other (λ h. cc))

and_left : (a b : Bool) → (a && b) ≡ true → a ≡ true
and_left true b h = refl
and_left false b h = cc

and_right : (a b : Bool) → (a && b) ≡ true → b ≡ true
and_right true b h = h
and_right false b h = cc

and_both : (a b : Bool) → a ≡ true → b ≡ true → (a && b) ≡ true
and_both true b h k = k
and_both false b h k = cc

module _ {X : Type 0} (part : Part) (f : FiveTuple) (apart : is_of_part part f ≡ false) where
  -- An entry of another part makes no difference.
  part_of_rest : (xs : List (FiveTuple × X))
      → entries_of_part part (rest_of f xs) ≡ entries_of_part part xs
  part_of_rest [] = refl
  part_of_rest (y ∷ xs) = (elim (is_five_tuple f y.0) as
      (λ b. is_five_tuple f y.0 ≡ b
      → entries_of_part part (cond (not b) (y ∷ rest_of f xs) (rest_of f xs))
      ≡ entries_of_part part (y ∷ xs)) [
        | true ↦ λ t. part_of_rest xs
            ∙ sym (ap (λ b. cond b (y ∷ entries_of_part part xs) (entries_of_part part xs))
            (subst (λ g. is_of_part part g ≡ false) (the_same f y.0 t) apart))
        | false ↦ λ t. ap (λ l. cond (is_of_part part y.0) (y ∷ l) l) (part_of_rest xs)
      ]) refl

  part_by_rest : (xs ys : List (FiveTuple × X)) → rest_of f ys ≡ rest_of f xs
      → entries_of_part part ys ≡ entries_of_part part xs
  part_by_rest xs ys same =
      sym (part_of_rest ys) ∙ ap (entries_of_part part) same ∙ part_of_rest xs

module _ {K : Type 0} (M : K → ℕ) (part : Part) where
  -- An arrival of another part.
  pub part_stays : (a : Arrival) (old new : Table (TlsAnalysis K))
      (over : Option (Connection (TlsAnalysis K))) → Accepts M a old new over
      → is_of_part part (five_tuple_in a) ≡ false
      → entries_of_part part new.live ≡ entries_of_part part old.live
  part_stays a old new over accepts apart =
      part_by_rest part (five_tuple_in a) apart old.live new.live
      (others_stay M a old new over accepts)

module _ {K : Type 0} (M : K → ℕ) (part : Part) (e : FiveTuple) where
  module _ {limit : ℕ} {reader : ArrivalReader} {old : Table (TlsAnalysis K)}
      {before : Option (List (Connection (TlsAnalysis K)))} where
    -- Packets of other parts.
    all_others : {packets : List Packet} {read : ArrivalReader} {new : Table (TlsAnalysis K)}
        {after : Option (List (Connection (TlsAnalysis K)))}
        (h : HandlesEach M limit reader old before packets read new after)
        → is_of_part part e ≡ true → are_of_other_parts part h ≡ true → are_of_others e h ≡ true
    all_others none_yet own others = refl
    all_others (one_more packets p read reads mid new between after h handles) own others =
        and_both (are_of_others e h) (is_of_other e handles.content)
        (all_others h own
        (and_left (are_of_other_parts part h) (is_content_of_others part handles.content) others))
        (others_of part e handles.content own
        (and_right (are_of_other_parts part h) (is_content_of_others part handles.content) others))

    pub part_kept : {packets : List Packet} {read : ArrivalReader} {new : Table (TlsAnalysis K)}
        {after : Option (List (Connection (TlsAnalysis K)))}
        (h : HandlesEach M limit reader old before packets read new after)
        → is_of_part part e ≡ true → are_of_other_parts part h ≡ true
        → StaysOrComesOut e (at e old.live) (at e new.live) (outs_over h)
    part_kept h own others = each_stays M e h (all_others h own others)

  -- Packets of the part begin none of another part.
  begun_none : (b : Bool) (f : FiveTuple) → is_five_tuple e f ≡ false → times e (begun_if b f) ≡ 0
  begun_none true f apart = rw apart refl
  begun_none false f apart = refl

  begun_by_none : (a : Arrival) (old mid : Table (TlsAnalysis K))
      (over : Option (Connection (TlsAnalysis K))) (h : Takes a old mid over)
      → is_five_tuple e (five_tuple_in a) ≡ false → times e (begun_by a old mid over h) ≡ 0
  begun_by_none (arrival.Segment s) old mid over h apart = begun_none _ (five_tuple_in (arrival.Segment s)) apart
  begun_by_none (arrival.Datagram d) old mid over h apart = begun_none _ (five_tuple_in (arrival.Datagram d)) apart

  begun_in_none : {a : Arrival} {old new : Table (TlsAnalysis K)}
      {before after : Option (List (Connection (TlsAnalysis K)))}
      (h : Arrives M a old new before after) → is_five_tuple e (five_tuple_in a) ≡ false
      → times e (begun_in h) ≡ 0
  begun_in_none {a} {old} (ends over accepts received) apart =
      begun_by_none a old accepts.mid (Some over) accepts.takes apart
  begun_in_none {a} {old} (goes_on mid accepts lent received) apart =
      begun_by_none a old accepts.mid None accepts.takes apart
  begun_in_none (is_refused mid over refuses keeps ended) apart = refl

  begun_of_none : (limit : ℕ) (old new : Table (TlsAnalysis K))
      (before after : Option (List (Connection (TlsAnalysis K)))) (c : Content)
      (h : HandlesContent M c limit old new before after) → is_of_part part e ≡ false
      → is_content_of_part part c ≡ true
      → times e (begun_of M limit old new before after c h) ≡ 0
  begun_of_none limit old new before after Nothing h other own = refl
  begun_of_none limit old new before after (Whole a) h other own =
      begun_in_none h.arrives
      (differs part e (five_tuple_in a) false true other own (λ g. cc))
  begun_of_none limit old new before after (InFragments a n) h other own =
      begun_in_none h.processes.arrives
      (differs part e (five_tuple_in a) false true other own (λ g. cc))

  module _ {limit : ℕ} {reader : ArrivalReader} {old : Table (TlsAnalysis K)}
      {before : Option (List (Connection (TlsAnalysis K)))} where
    begun_over_none : {packets : List Packet} {read : ArrivalReader}
        {new : Table (TlsAnalysis K)} {after : Option (List (Connection (TlsAnalysis K)))}
        (h : HandlesEach M limit reader old before packets read new after)
        → is_of_part part e ≡ false → are_of_part part h ≡ true → times e (begun_over h) ≡ 0
    begun_over_none none_yet other own = refl
    begun_over_none (one_more packets p read reads mid new between after h handles) other own =
        omega (
          arith,
          times-append e (begun_over h) (begun_of M limit mid new between after handles.content handles.handles),
          begun_over_none h other
              (and_left (are_of_part part h) (is_content_of_part part handles.content) own),
          begun_of_none limit mid new between after handles.content handles.handles other
              (and_right (are_of_part part h) (is_content_of_part part handles.content) own),
        )

  pub part_alone : (limit : ℕ) (packets : List Packet) (reader : ArrivalReader)
      (old new : Table (TlsAnalysis K))
      (before after : Option (List (Connection (TlsAnalysis K))))
      (run : IsRun M limit packets reader old new before after)
      → refused_over run.handles ≡ [] → are_of_part part run.handles ≡ true
      → is_of_part part e ≡ false → count_of e (log_of run) ≡ count_of e old.live
  part_alone limit packets reader old new before after run held own other =
      omega (
        arith,
        run_count M e limit packets reader old new before after run held,
        begun_over_none run.handles other own,
      )
