-- Equal algorithms (RFC 5280, section 4.1.1.2).
use Rattle.std.specs.Prelude.{◌==◌, ◌&&◌, Bool, true, false, Option, Some, None}
use Rattle.std.specs.Str.{bytes_eq}
use Rattle.der.specs.Element.{Element}
use Rattle.x509.specs.Certificate.{AlgorithmIdentifier}

abbrev pub same_parameters : Option Element → Option Element → Bool
same_parameters None None = true
same_parameters (Some a) (Some b) = (a.tag == b.tag) && bytes_eq a.content b.content
same_parameters _ _ = false

-- The same identifier, with the same parameters.
abbrev pub same_algorithm : AlgorithmIdentifier → AlgorithmIdentifier → Bool
same_algorithm a b =
    bytes_eq a.algorithm b.algorithm && same_parameters a.parameters b.parameters
