use Rattle.std.proofs.Common.{sym, subst}
use Rattle.layouts.proofs.PlaceLemmas.{ends_here}
use Rattle.tls_records.specs.InPlace.{host_name_of_record}
use Rattle.tls_records.specs.Record.{view_raw_record}
use Rattle.tls_places.specs.Place.{IsWithin, Stands}
use Rattle.tls_places.proofs.HostNameLemmas.{handshake_found}
use Rattle.tls_places.proofs.host_name.host_name_place_of_record.Goals as goal

fragment : (c : goal.After-outward)
    → Stands c.args.i.now c.in_ok-record.outer c.in_ok-record.record.bytes.now
fragment c = c.in_ok-record.ensures.stands (ends_here c.args.i.now)

pub returns-clause-finds : goal.returns-clause-finds
returns-clause-finds c =
    c.outward.ensures.finds (host_name_of_record c.args.i.now) (fragment c).within
    (subst (λ x. IsWithin x c.host_name_place_of_fragment.result)
    (sym (fragment c).is) c.host_name_place_of_fragment.ensures.within)
    (handshake_found c.args.i.now c.in_ok-record.field-0-0.now c.in_ok-record.outer
    (view_raw_record c.in_ok-record.record) c.host_name_place_of_fragment.result
    c.in_ok-record.ensures.gives.read c.if-ne.ensures (fragment c).is
    c.host_name_place_of_fragment.ensures.finds)
