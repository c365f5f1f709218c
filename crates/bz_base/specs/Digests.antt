-- SHA-256 digests (FIPS 180-4) as texts.
use Rattle.std.specs.Prelude.{List, ℕ}
use Rattle.sha2.specs.Sha256.{sha256}
use Rattle.hex.specs.Hex.{encode_lower}
use Rattle.base64.specs.GeneralPurpose.{encode_of}
use Rattle.base64.specs.Engines.{standard}

-- the digest in lower-case hexadecimal digits: RFC 4648, 8
unfoldable pub digest_hex_text : List ℕ → List ℕ
digest_hex_text bytes = encode_lower (sha256 bytes)

-- the digest in base64 with padding: RFC 4648, 4
unfoldable pub digest_base64_text : List ℕ → List ℕ
digest_base64_text bytes = encode_of standard (sha256 bytes)
