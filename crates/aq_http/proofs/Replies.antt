-- The bytes of a reply, piece by piece.
use Rattle.std.proofs.Common.{◌≡◌, ℕ, List, ◌++◌, length, ap, ◌∙◌, codes, append_assoc}
use Rattle.std.specs.Prelude.{decimal}
use Rattle.http.specs.StatusCode.{status_text}
use Rattle.aq_http.specs.Reply.{Reply, allow_line, close_line, guard_lines, media_name, reply_text}
use Rattle.aq_http.specs.declared.media.MediaType.{MediaType}

-- what stands in front of the lines that not each reply has
abbrev pub start_text : ℕ → MediaType → ℕ → List ℕ
start_text status media size =
    codes "HTTP/1.1 " ++ status_text status
    ++ codes "\r\nContent-Type: " ++ media_name media
    ++ codes "\r\n" ++ guard_lines media
    ++ codes "Content-Length: " ++ decimal size ++ codes "\r\n"

pub reply_is : (start : List ℕ) (reply : Reply) → start ≡ start_text reply.status reply.media (length reply.body)
    → start ++ allow_line reply.status reply.allow ++ close_line reply.close ++ codes "\r\n" ++ reply.body ≡ reply_text reply
unfolding reply_text
reply_is start reply e = ap (λ s. s ++ allow_line reply.status reply.allow ++ close_line reply.close ++ codes "\r\n" ++ reply.body) e

regroup : (a b c d e f g h i : List ℕ) → a ++ (b ++ (c ++ (d ++ (e ++ (f ++ (g ++ (h ++ i))))))) ≡ a ++ b ++ c ++ d ++ e ++ f ++ g ++ h ++ i
regroup a b c d e f g h i = simp append_assoc

-- the same text as it is written
abbrev pub written : ℕ → List ℕ → List ℕ → ℕ → List ℕ
written code media guards size =
    codes "HTTP/1.1 " ++ (status_text code ++ (codes "\r\nContent-Type: " ++ (media ++ (codes "\r\n" ++ (guards ++ (codes "Content-Length: " ++ (decimal size ++ codes "\r\n")))))))

pub formatted : (status : ℕ) (media : MediaType) (code : ℕ) (name guards : List ℕ) (size : ℕ) → code ≡ status → name ≡ media_name media
    → guards ≡ guard_lines media → written code name guards size ≡ start_text status media size
formatted status media code name guards size e n g =
    regroup (codes "HTTP/1.1 ") (status_text code) (codes "\r\nContent-Type: ") name (codes "\r\n") guards (codes "Content-Length: ") (decimal size) (codes "\r\n")
    ∙ (λ i. codes "HTTP/1.1 " ++ status_text (e i) ++ codes "\r\nContent-Type: " ++ n i ++ codes "\r\n" ++ g i ++ codes "Content-Length: " ++ decimal size ++ codes "\r\n")
