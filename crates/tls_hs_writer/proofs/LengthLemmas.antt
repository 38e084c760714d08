-- Lengths of the encodings of hellos, as sums of the lengths of their fields.
use Rattle.std.proofs.Common.{◌≡◌, ℕ, ◌≤◌, ◌+◌, ◌*◌, ◌++◌, length, map, ◌∙◌, ap, arith, append_assoc}
use Rattle.std.proofs.Math.ListN.{length-map}
use Rattle.std.proofs.lemmas.List.{length-append}
use Rattle.layouts.specs.Bytes.{Bytes, bytes_of}
use Rattle.layouts.specs.Text.{counted_text, numbers_text, held}
use Rattle.layouts.proofs.NumberLemmas.{length-bytes_of}
use Rattle.layouts.proofs.TextLemmas.{length-numbers}
use Rattle.tls_hs.specs.Hello.{ClientHello, view_client_hello}
use Rattle.tls_hs.specs.ServerHello.{ServerHello, ServerHelloDraft18}
use Rattle.tls_hs.specs.HandshakeText.{FitsClientHello, client_hello_text, server_hello_text, server_hello_draft18_text}
use Rattle.tls_hs.specs.declared.client_hello.TlsClientHelloContents.{TlsClientHelloContents}

length-six : (a b c d e f : Bytes)
    → length (a ++ b ++ c ++ d ++ e ++ f) ≡ length a + length b + length c + length d
    + length e + length f
length-six a b c d e f = simp length-append

length-four : (a b c d : Bytes)
    → length (a ++ b ++ c ++ d) ≡ length a + length b + length c + length d
length-four a b c d = simp length-append

length-counted : (k : ℕ) (b : Bytes) → length (counted_text k b) ≡ k + length b
length-counted k b = length-append (bytes_of k (length b)) b
    ∙ ap (λ n. n + length b) (length-bytes_of k (length b))

length-hello : (h : ClientHello)
    → length (client_hello_text h) ≡ 2 + length h.random + 1 + length (held h.session_id)
    + 2 + 2 * length h.cipher_suites + 1 + length h.compression_methods + 2 + length
    (held h.extensions)
unfolding client_hello_text
length-hello h =
    let i = counted_text 1 (held h.session_id) in
    let s = counted_text 2 (numbers_text 2 h.cipher_suites) in
    let c = counted_text 1 (numbers_text 1 h.compression_methods) in
    let e = counted_text 2 (held h.extensions) in
    length-six (bytes_of 2 h.client_version) h.random i s c e
    ∙ omega (
      arith,
      length-bytes_of 2 h.client_version,
      length-counted 1 (held h.session_id),
      length-counted 2
          (numbers_text 2 h.cipher_suites),
      length-counted 1 (numbers_text 1 h.compression_methods),
      length-counted 2
          (held h.extensions),
      length-numbers 2 h.cipher_suites,
      length-numbers 1 h.compression_methods,
    )

-- a hello in memory, whose lists are numbers
pub client_hello_length : (h : TlsClientHelloContents)
    → length (client_hello_text (view_client_hello h)) ≡ 2 + length (view_client_hello h).random
    + 1 + length
    (held (view_client_hello h).session_id) + 2 + 2 * length h.ciphers.items + 1 + length
    h.comp.items + 2 + length
    (held (view_client_hello h).extensions)
client_hello_length h =
    let suites : length (map (λ x. x.0) h.ciphers.items) ≡ length h.ciphers.items =
    length-map _ _ in
    let methods : length (map (λ x. x.0) h.comp.items) ≡ length h.comp.items = length-map _ _ in
    omega (arith, length-hello (view_client_hello h), suites, methods)

-- a hello in memory fits if its parts are short
pub client_hello_fits : (h : TlsClientHelloContents) → length (view_client_hello h).random ≡ 32
    → length (held (view_client_hello h).session_id) ≤ 32 → length h.ciphers.items ≤ 32767
    → length h.comp.items ≤ 255
    → length (held (view_client_hello h).extensions) ≤ 65535 → FitsClientHello (view_client_hello h)
client_hello_fits h random id suites methods extensions =
    let as_many : length (map (λ x. x.0) h.ciphers.items) ≡ length h.ciphers.items =
    length-map _ _ in
    let no_more : length (map (λ x. x.0) h.comp.items) ≡ length h.comp.items = length-map _ _ in
    record {
      random = random;
      session_id = id;
      suites = omega (arith, suites, as_many);
      methods = omega (arith, methods, no_more);
      extensions = extensions;
    }

pub server_hello_length : (h : ServerHello)
    → length (server_hello_text h) ≡ 2 + length h.random + 1 + length (held
    h.session_id) + 2 + 1 + 2 + length (held h.extensions)
unfolding server_hello_text
server_hello_length h =
    length-six (bytes_of 2 h.server_version) h.random (counted_text 1 (held h.session_id))
    (bytes_of 2 h.cipher_suite)
    (bytes_of 1 h.compression_method) (counted_text 2 (held h.extensions))
    ∙ omega (
      arith,
      length-bytes_of 2 h.server_version,
      length-counted 1 (held h.session_id),
      length-bytes_of 2
          h.cipher_suite,
      length-bytes_of 1 h.compression_method,
      length-counted 2 (held h.extensions),
    )

pub server_hello_draft18_length : (h : ServerHelloDraft18)
    → length (server_hello_draft18_text h) ≡ 2 + length h.random + 2 + 2 + length
    (held h.extensions)
unfolding server_hello_draft18_text
server_hello_draft18_length h =
    length-four (bytes_of 2 h.version) h.random (bytes_of 2 h.cipher_suite)
    (counted_text 2 (held h.extensions))
    ∙ omega (
      arith,
      length-bytes_of 2 h.version,
      length-bytes_of 2 h.cipher_suite,
      length-counted 2 (held h.extensions),
    )

-- an encoding, from the parts that are appended one by one
pub six_added : (o0 o1 o2 o3 o4 o5 o6 a b c d e f : Bytes) → o1 ≡ o0 ++ a → o2 ≡ o1 ++ b
    → o3 ≡ o2 ++ c → o4 ≡ o3 ++ d
    → o5 ≡ o4 ++ e → o6 ≡ o5 ++ f → o6 ≡ o0 ++ (a ++ b ++ c ++ d ++ e ++ f)
six_added o0 o1 o2 o3 o4 o5 o6 a b c d e f e1 e2 e3 e4 e5 e6 =
    let all : o6 ≡ o0 ++ a ++ b ++ c ++ d ++ e ++ f = cc in
    all ∙ simp append_assoc

pub four_added : (o0 o1 o2 o3 o4 a b c d : Bytes) → o1 ≡ o0 ++ a → o2 ≡ o1 ++ b → o3 ≡ o2 ++ c
    → o4 ≡ o3 ++ d
    → o4 ≡ o0 ++ (a ++ b ++ c ++ d)
four_added o0 o1 o2 o3 o4 a b c d e1 e2 e3 e4 =
    let all : o4 ≡ o0 ++ a ++ b ++ c ++ d = cc in
    all ∙ simp append_assoc

pub three_added : (o0 o1 o2 o3 a b c : Bytes) → o1 ≡ o0 ++ a → o2 ≡ o1 ++ b → o3 ≡ o2 ++ c
    → o3 ≡ o0 ++ (a ++ (b ++ c))
three_added o0 o1 o2 o3 a b c e1 e2 e3 =
    let all : o3 ≡ o0 ++ a ++ b ++ c = cc in
    all ∙ simp append_assoc
