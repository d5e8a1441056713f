mod Opens
