-- Each call has one answer and one content of each array that is lent to it to write, for every input: two that meet its promise are equal.
-- Assumes nothing.
use Prim.Native.Nat.{ℕ}
use mathlib.Core.Path.{◌≡◌, ap}
use mathlib.Core.List.{List}
use Rattle.laws.proofs.Unique.{one_result}
use Rattle.host_words.specs.Answers.{words}
use Rattle.host_words.proofs.Unique.{words_one}
use Rattle.host_log_records.specs.Calls.{log_read, Made, made, offer_made, set_made}

pub unique_log_read :
    (log : List ℕ) (place : ℕ) (fields : List ℕ) (r s : ℕ) (w v : List ℕ) → words r w ≡ log_read log place fields → words s v ≡ log_read log place fields → (r ≡ s) × (w ≡ v)
unique_log_read log place fields = words_one (log_read log place fields)

module _ (r s : ℕ) (w v t u : List ℕ) where
  made_one : (x : Made) → made r w t ≡ x → made s v u ≡ x → (r ≡ s) × (w ≡ v) × (t ≡ u)
  made_one x a b =
      let e : made r w t ≡ made s v u = one_result x a b in
      (ap (λ (m : Made). m.answer) e, ap (λ (m : Made). m.bytes) e, ap (λ (m : Made). m.told) e)

  pub unique_log_offer_record :
      (answer rule input pid : ℕ) (section bytes told : List ℕ) → made r w t ≡ offer_made answer rule input pid section bytes told → made s v u ≡ offer_made answer rule input pid section bytes told →
      (r ≡ s) × (w ≡ v) × (t ≡ u)
  unique_log_offer_record answer rule input pid section bytes told = made_one (offer_made answer rule input pid section bytes told)

  pub unique_log_set_record :
      (input pid : ℕ) (section bytes : List ℕ) → made r w t ≡ set_made input pid section bytes → made s v u ≡ set_made input pid section bytes → (r ≡ s) × (w ≡ v) × (t ≡ u)
  unique_log_set_record input pid section bytes = made_one (set_made input pid section bytes)
