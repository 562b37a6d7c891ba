-- What was hashed from a source.
use Rattle.std.proofs.Common.{◌≡◌, ℕ, ◌+◌, ◌-◌, ◌<◌, ◌≤◌, List, [], ◌++◌, drop, length, take, refl, append-nil, length-append, arith}
use Rattle.std.proofs.Math.Seq.{take-append_seam}
use Rattle.std.proofs.lemmas.List.{length-take-le}
use Rattle.std.specs.Io.KnownBytes.{IsAtEnd}
use Rattle.pcr_banks.specs.declared.alg.Alg.{Alg}
use Rattle.pcr_banks.specs.declared.digest.Digest.{Digest}
use Rattle.pcr_banks.specs.declared.hasher.Hasher.{Hasher}
use Rattle.pcr_banks.specs.Names.{HasTaken, digest_of, hash_of}
use Rattle.byte_streams.specs.Streams.{SourceState}
use Rattle.agent_inputs.specs.Loading.{IsHashOfAll}
use Rattle.agent_inputs.proofs.LoadingLemmas.{HasLost, lost_nothing, whole}

-- The hasher took what the source lost, and `room` more bytes are allowed.
pub record HasHashed (old new : SourceState) (alg : Alg) (limit room : ℕ) (hasher : Hasher) : Type 0 where
  pub content : List ℕ
  pub has : HasLost old new content
  pub taken : HasTaken hasher alg content
  pub size : length content + room ≡ limit

pub hashed_nothing : (old : SourceState) (alg : Alg) (limit : ℕ) (hasher : Hasher) → HasTaken hasher alg []
    → HasHashed old old alg limit limit hasher
hashed_nothing old alg limit hasher taken = record { content = []; has = lost_nothing old [] refl; taken = taken; size = omega arith }

-- The vector that was borrowed as a buffer holds what was read.
pub read_back : (buffer items : List ℕ) (size : ℕ) → length buffer ≡ size → take size (buffer ++ drop (length buffer) items) ≡ buffer
read_back buffer items size e = rw (← e) (take-append_seam buffer (drop (length buffer) items))

module _ (old mid : SourceState) {alg : Alg} {limit room : ℕ} {before : Hasher} (hashed : HasHashed old mid alg limit room before) where
  -- After one more piece.
  pub hashed_more : (new : SourceState) (after : Hasher) (buffer filled : List ℕ) (count : ℕ) → HasLost old new (hashed.content ++ take count buffer)
      → count ≤ length buffer → filled ≡ buffer → count ≤ room
      → ((a : Alg) (taken : List ℕ) → HasTaken before a taken → HasTaken after a (taken ++ take count filled))
      → HasHashed old new alg limit (room - count) after
  hashed_more new after buffer filled count lost has same within takes = record {
    content = hashed.content ++ take count buffer;
    has = lost;
    taken = rw same at (takes alg hashed.content hashed.taken);
    size = omega (arith, hashed.size, length-append hashed.content (take count buffer), length-take-le count buffer has);
  }

  -- At the end.
  pub hashed_all : (new : SourceState) (digest : Digest) → HasLost old new (hashed.content ++ []) → IsAtEnd new.remaining
      → ((a : Alg) (taken : List ℕ) → HasTaken before a taken → digest ≡ digest_of a (hash_of a taken))
      → IsHashOfAll old.remaining alg limit digest
  hashed_all new digest lost end gives = record {
    content = hashed.content;
    held = whole old.remaining new.remaining hashed.content (rw append-nil at lost.lost) end;
    within = omega (arith, hashed.size);
    digest_is = gives alg hashed.content hashed.taken;
  }

  -- A piece for which there is no room.
  pub past_room : (buffer : List ℕ) (count : ℕ) → count ≤ length buffer → room < count → limit < length (hashed.content ++ take count buffer)
  past_room buffer count has more =
      omega (arith, hashed.size, length-append hashed.content (take count buffer), length-take-le count buffer has)
