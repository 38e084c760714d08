-- Parameters of a key exchange. Where an RFC has a lower bound of 1, as in opaque point<1..2^8-1>,
-- these layouts accept an empty block too.
use Rattle.std.specs.Prelude.{ℕ, ◌==◌}
use Rattle.layouts.specs.Bytes.{Bytes}
use Rattle.layouts.specs.Layout.{Layout, done, refuse, number, ◌>>=◌, mapped, choose, counted}
use Rattle.layouts.specs.declared.result.ErrorKind.TheVariants.{Switch}
use Rattle.tls_base.specs.Point.{point, view_point}
use Rattle.tls_key_exchange.specs.declared.dh.ServerDHParams as dh_params_of
use Rattle.tls_key_exchange.specs.declared.ec.ECCurve as curve_of
use Rattle.tls_key_exchange.specs.declared.ec.ExplicitPrimeContent as explicit_prime_of
use Rattle.tls_key_exchange.specs.declared.ec.ECParametersContent as content_of
use Rattle.tls_key_exchange.specs.declared.ec.ECParametersContent.TheVariants as content
use Rattle.tls_key_exchange.specs.declared.ec.ECParameters as parameters_of
use Rattle.tls_key_exchange.specs.declared.ec.ServerECDHParams as ecdh_params_of

-- struct { opaque dh_p<1..2^16-1>; opaque dh_g<1..2^16-1>; opaque dh_Ys<1..2^16-1>; }
-- ServerDHParams (RFC 5246, section 7.4.3).
pub record ServerDHParams : Type 0 where
  pub dh_p : Bytes
  pub dh_g : Bytes
  pub dh_Ys : Bytes

abbrev pub view_dh_params : dh_params_of.ServerDHParams → ServerDHParams
view_dh_params p = record { dh_p = p.dh_p.now; dh_g = p.dh_g.now; dh_Ys = p.dh_ys.now }

unfoldable pub dh_params : Layout ServerDHParams
dh_params = do
  p ← counted 2
  g ← counted 2
  ys ← counted 2
  done (record { dh_p = p; dh_g = g; dh_Ys = ys })

-- struct { opaque a<1..2^8-1>; opaque b<1..2^8-1>; } ECCurve (RFC 4492, section 5.4).
pub record ECCurve : Type 0 where
  pub a : Bytes
  pub b : Bytes

abbrev pub view_curve : curve_of.ECCurve → ECCurve
view_curve c = record { a = c.a.now; b = c.b.now }

unfoldable pub curve : Layout ECCurve
curve = do
  a ← counted 1
  b ← counted 1
  done (record { a = a; b = b })

-- The parameters of a curve over a prime field, in ECParameters (RFC 4492, section 5.4).
pub record ExplicitPrime : Type 0 where
  pub prime_p : Bytes
  pub curve : ECCurve
  pub base : Bytes
  pub order : Bytes
  pub cofactor : Bytes

abbrev pub view_explicit_prime : explicit_prime_of.ExplicitPrimeContent → ExplicitPrime
view_explicit_prime c = record {
  prime_p = c.prime_p.now;
  curve = view_curve c.curve;
  base = view_point c.base;
  order = c.order.now;
  cofactor = c.cofactor.now;
}

unfoldable pub explicit_prime : Layout ExplicitPrime
explicit_prime = do
  p ← counted 1
  c ← curve
  base ← point
  order ← counted 1
  cofactor ← counted 1
  done (record { prime_p = p; curve = c; base = base; order = order; cofactor = cofactor })

-- What follows curve_type in ECParameters (RFC 4492, section 5.4, and RFC 8422, section 5.4).
pub data CurveParameters : Type 0 where
  OfExplicitPrime : ExplicitPrime → CurveParameters
  OfNamedCurve : ℕ → CurveParameters

abbrev pub view_curve_parameters : content_of.ECParametersContent → CurveParameters
view_curve_parameters (content.ExplicitPrime c) = OfExplicitPrime (view_explicit_prime c)
view_curve_parameters (content.NamedGroup g) = OfNamedCurve g.0

-- select (curve_type) { case explicit_prime: ..; case named_curve: NamedCurve; }
unfoldable pub curve_parameters : ℕ → Layout CurveParameters
curve_parameters curve_type =
    choose (curve_type == 1) (mapped OfExplicitPrime explicit_prime) (
    choose (curve_type == 3) (mapped OfNamedCurve (number 2)) (
    refuse Switch))

-- struct { ECCurveType curve_type; select (curve_type) { .. }; } ECParameters (RFC 4492, section
-- 5.4).
pub record ECParameters : Type 0 where
  pub curve_type : ℕ
  pub parameters : CurveParameters

abbrev pub view_ec_parameters : parameters_of.ECParameters → ECParameters
view_ec_parameters p =
    record { curve_type = p.curve_type.0; parameters = view_curve_parameters p.params_content }

unfoldable pub ec_parameters : Layout ECParameters
ec_parameters = do
  curve_type ← number 1
  parameters ← curve_parameters curve_type
  done (record { curve_type = curve_type; parameters = parameters })

-- struct { ECParameters curve_params; ECPoint public; } ServerECDHParams (RFC 8422, section 5.4).
pub record ServerECDHParams : Type 0 where
  pub curve_params : ECParameters
  pub public : Bytes

abbrev pub view_ecdh_params : ecdh_params_of.ServerECDHParams → ServerECDHParams
view_ecdh_params p =
    record { curve_params = view_ec_parameters p.curve_params; public = view_point p.public }

unfoldable pub ecdh_params : Layout ServerECDHParams
ecdh_params = do
  parameters ← ec_parameters
  public ← point
  done (record { curve_params = parameters; public = public })
