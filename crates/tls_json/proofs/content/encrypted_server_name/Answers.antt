use Rattle.std.proofs.Common.{[], ◌∷◌, codes}
use Rattle.tls_json.specs.Outline.{Entries, hexadecimal, bytes}
use Rattle.tls_json.specs.Extensions.{share_fields}
use Rattle.tls_json.proofs.Entries.{names_shown}
use Rattle.tls_json.proofs.content.encrypted_server_name.Goals as goal

pub returns : goal.returns
returns c =
    let read = c.in-EncryptedServerName in
    let share = share_fields read.group.0 read.key_share.now in
    let all : Entries =
    hexadecimal (codes "suite") read.ciphersuite.0
    ∷ (codes "key_share", share)
    ∷ bytes (codes "record_digest") read.record_digest.now
    ∷ bytes (codes "encrypted_sni") read.encrypted_sni.now
    ∷ [] in
    let shared = c.add.ensures.fields _ share (c.hexadecimal.ensures [] c.new.ensures.fields)
    c.share_of.ensures in
    names_shown c.finish.result all
    (c.finish.ensures.fields _ (c.bytes-2.ensures _ (c.bytes.ensures _ shared)))
