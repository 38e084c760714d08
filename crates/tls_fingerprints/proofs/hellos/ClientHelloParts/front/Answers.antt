use Rattle.std.proofs.Common.{◌≤◌, length, arith, rules}
use Rattle.tls_base.specs.ExtensionNumbers.{server_name}
use Rattle.tls_ext.specs.InPlace.{best_version, protocol_names}
use Rattle.tls_ext.specs.Offered.{content_in, known}
use Rattle.tls_fingerprints.specs.Hellos.{Client, view_client}
use Rattle.tls_fingerprints.specs.Ja4.{letter_of, name_letter, protocol_text, two_digits, version_text}
use Rattle.tls_fingerprints.proofs.DigestLemmas.{six_put}
use Rattle.tls_fingerprints.proofs.hellos.ClientHelloParts.front.Goals as goal

pub returns : goal.returns
returns c =
    let all : length c.put-end.new.text ≤ c.put-end.result = omega arith in
    let h : Client = view_client c.args.self.now in
    six_put _ _ _ _ _ _ _ _ _ _ _ _ (letter_of c.args.transport)
    (version_text (known (best_version h.version h.extensions)))
    (name_letter (content_in server_name h.extensions))
    (two_digits c.args.suites) (two_digits c.args.types)
    (protocol_text (known (protocol_names h.extensions)))
    _ _ _ _ _ _ c.put-at.ensures.stands c.put-at-2.ensures.stands
    c.put-at-3.ensures.stands c.put-at-4.ensures.stands c.put-at-5.ensures.stands
    c.put-end.ensures.stands all
    (search rules) (search rules) (search rules) (search rules) (search rules) (search rules)
