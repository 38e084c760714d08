use Rattle.std.proofs.Common.{rules}
use Rattle.capture.specs.Ip.{view_datagram}
use Rattle.capture.specs.Transport.{view_segment}
use Rattle.arrivals.proofs.NetworkLemmas.{plain, with_segment}
use Rattle.arrivals.proofs.reader.ArrivalReader.plain_arrival.Goals as goal

-- src/reader.rt:266:5
pub returns-clause-reads : goal.returns-clause-reads
returns-clause-reads c =
    with_segment _ _ (view_datagram c.in-Some.datagram) (view_segment c.in-Tcp.tcp) _ _ _
    (search rules) (search rules) (search rules) (record {
      is = search rules;
      logged = search rules;
      network = plain _ c.plain_segment.new.tunnels c.args.self.now.counts_vlans
          c.args.self.now.networks c.segment_of-segment.result.network (search rules)
          (search rules) (search rules);
      same = search rules;
    })
